pub mod Below
pub mod Findings
pub mod Known
pub mod Replies
pub mod Services
pub mod lemmas
