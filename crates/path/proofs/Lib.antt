-- The laws of a path, and the checked figure P9.
pub mod Laws
pub mod Figures
