pub mod Errand
