-- The laws of a reading, and the checked figures P7 and P8.
pub mod Laws
pub mod Figures
