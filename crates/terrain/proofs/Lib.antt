-- The laws of the file, and the checked figure P6.
pub mod Laws
pub mod Figures
