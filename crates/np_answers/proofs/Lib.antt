pub mod Apart
mod Numbers
