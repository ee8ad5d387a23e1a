-- The laws of the library, the user's three demands, document 02's survey and seams, what the other answers hold, sentences of both documents in bytes and
-- numbers, what is read in bytes, document 02's spot, and the checked figures P1 to P12.
pub mod Laws
pub mod Calls
pub mod Demand2
pub mod Demand3
pub mod Survey
pub mod Seam
pub mod Given
pub mod Document
pub mod Bytes
pub mod Spot
pub mod Figures
