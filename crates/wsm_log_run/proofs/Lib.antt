pub mod SameLog
