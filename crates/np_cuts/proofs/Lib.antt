pub mod Sharp
pub mod Lists
