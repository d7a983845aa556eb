pub mod Hmac
pub mod Signature
