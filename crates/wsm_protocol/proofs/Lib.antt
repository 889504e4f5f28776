pub mod Lists
pub mod Standing
pub mod Good
pub mod Steps
pub mod Still
pub mod Going
