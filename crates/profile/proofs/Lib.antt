-- The laws of a profile.
pub mod Laws
