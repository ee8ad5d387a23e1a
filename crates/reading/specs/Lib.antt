-- What a reader must believe of a reading: document 01, chapter "A reading", and demand 2 of a point.
--     Corner       the four corners, and their exact height
--     Vote         the surface code
--     Reading      the order of the checks up to 6
--     Demand       demand 2 of a point, in words of a rectangle
--     Engine       the point for the engine
--     Figure       document 01's checked figures P7 and P8
-- and, for the crate's own use,
--     Inside       what its functions ask of each other and tell each other
pub mod Corner
pub mod Vote
pub mod Reading
pub mod Demand
pub mod Engine
pub mod Figure
pub mod Inside
