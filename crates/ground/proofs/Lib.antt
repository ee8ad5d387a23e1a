-- The laws of the ground, and the checked figures P1, P3, P4 and P5.
pub mod Laws
pub mod Figures
