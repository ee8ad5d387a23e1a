-- The laws of the search for masts.
pub mod Laws
