-- What a reader must believe of the reading of a spot: document 02, request c).
--     Spot         the order of its checks, and the positions of the index that it looks at
pub mod Spot
