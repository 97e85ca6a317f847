pub mod Valid
pub mod Text
pub mod Layout
pub mod ReadingAnswers
pub mod ReadingForm
pub mod ReadingOnce
