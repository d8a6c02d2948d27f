pub mod row_check
