pub mod CommandSteps
pub mod Output
pub mod Texts
pub mod Words
