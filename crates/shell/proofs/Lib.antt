-- The laws of the plan shell, and document 02's session.
pub mod Laws
pub mod Figures
