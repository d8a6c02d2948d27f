pub mod Pair
