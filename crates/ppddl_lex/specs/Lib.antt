pub mod Bytes
pub mod Gaps
pub mod Lexemes
pub mod Tokens
pub mod Words
