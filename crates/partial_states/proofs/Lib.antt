pub mod Facts
pub mod lemmas
pub mod Coins
