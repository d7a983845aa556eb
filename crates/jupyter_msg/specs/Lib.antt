-- Those of the signature, passed on: a file that names them names this crate alone.
pub use Rattle.jupyter_signature.specs.Hmac
pub use Rattle.jupyter_signature.specs.Signature
pub mod Fault
pub mod Object
pub mod Octets
pub mod Message
pub mod Opened
pub mod Table
pub mod Connection
pub mod Fields
pub mod RequestType
pub mod Requests
pub mod Asked
