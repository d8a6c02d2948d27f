mod Going
mod Words
mod Turns
mod Claims
mod Meeting
