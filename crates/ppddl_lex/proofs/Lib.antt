mod Steps
mod Runs
mod Next
mod Only
mod Offsets
mod Whole
mod Lowered
