-- The laws of the mast plan, and the checked figures P11 and P12.
pub mod Laws
pub mod Figures
