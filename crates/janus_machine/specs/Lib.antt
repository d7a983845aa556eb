pub mod LaidCode
pub mod Sites
pub mod Laid
pub mod Places
pub mod Mirrored
pub mod Turns
pub mod LinkedProcedure
pub mod Procedures
pub mod Bodies
pub mod Nested
pub mod Cursor
pub mod Cursors
pub mod Whereabouts
pub mod Counts
pub mod CountedStore
pub mod Open
pub mod Calls
pub mod Pause
pub mod Steps
pub mod Law
-- Of janus_frames, given again.
pub use Rattle.janus_frames.specs.StoreState
pub use Rattle.janus_frames.specs.Calls as FrameCalls
pub use Rattle.janus_frames.specs.Stores
pub use Rattle.janus_frames.specs.Cells
pub use Rattle.janus_frames.specs.Values as FrameValues
-- Of janus_linear, given again.
pub use Rattle.janus_linear.specs.Open as LinearOpen
pub use Rattle.janus_linear.specs.Within
