pub mod Truth
pub mod Choice
pub mod Options
pub mod Numbers
pub mod Lists
