mod Ends
mod Rows
mod Names
mod Jobs
