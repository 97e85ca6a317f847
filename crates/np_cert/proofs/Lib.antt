pub mod Printing
pub mod ReadingChoices
pub mod ReadingForms
pub mod ReadingLexemes
pub mod ReadingNumbers
pub mod ReadingStarts
pub mod ReadingTexts
