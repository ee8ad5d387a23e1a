-- The laws of the index, and the checked figure P2.
pub mod Laws
pub mod Figures
