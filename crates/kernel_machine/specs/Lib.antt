-- The definitions of the kernel machine.

-- What the machine is told of the language: cells that run and are taken back, how far code came, and which cell a text is.
pub mod Language
pub mod Reached
pub mod Text
pub mod Refusal
-- The machine, in reading order: travels and headings, its states, which of them are legal, its slices and begins, its minutes and runs, how
-- many steps a slice takes, how jobs may end, and what minutes tell.
pub mod Travel
pub mod Heading
pub mod State
pub mod Legal
pub mod Slices
pub mod Begins
pub mod Extent
pub mod Request
pub mod Minutes
pub mod Runs
pub mod StepsOfSlices
pub mod PostFault
pub mod Midway
pub mod LegalState
pub mod Ends
pub mod LegalMinutes
-- How states and machines are stored, so that contracts can have them as values.
pub mod StateCode
pub mod MachineCode
