-- Which bytes spell a data set (PS3.5 7.1, 7.5, A.4).
pub mod Head
pub mod Spelling
