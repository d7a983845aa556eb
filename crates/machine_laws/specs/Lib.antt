-- The laws of the kernel machine's runs.
pub mod Theorems
pub mod Travels
pub mod CountedSteps
pub mod Counters
pub mod Determined
pub mod OverTime
