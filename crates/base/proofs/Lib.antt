-- Laws of the definitions of specs/, a file for each, and of lists.
pub mod Choice
pub mod Parts
pub mod Searches
pub mod Folds
pub mod Eachs
