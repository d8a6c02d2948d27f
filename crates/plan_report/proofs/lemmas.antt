pub mod certificates
