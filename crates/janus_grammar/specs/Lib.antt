pub mod Derivation
pub mod Laws
