-- The laws of a spot.
pub mod Laws
