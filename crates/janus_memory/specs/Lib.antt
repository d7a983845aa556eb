pub mod Lists
pub mod Stacks
pub mod Memory
pub mod Values
pub mod Inside
