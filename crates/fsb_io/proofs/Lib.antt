pub mod HexDigits
pub mod Taken
pub mod Written
pub mod WorkedWords
pub mod Interface
