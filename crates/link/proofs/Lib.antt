-- The laws of a link, and the checked figure P10.
pub mod Laws
pub mod Figures
