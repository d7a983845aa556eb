pub mod Count
pub mod Refusals
