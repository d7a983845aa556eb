pub mod Json
pub mod Stamp
pub mod Said
pub mod Draft
pub mod Message
pub mod Sent
pub mod Drafts
pub mod Laws
