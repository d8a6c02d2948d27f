pub mod LeastCosts
mod Order
mod Sums
