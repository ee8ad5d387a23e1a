-- What a reader must believe of the mast plan: demand 3 on the clear test of document 01, chapter "A path".
--     Plan         the mast plan
--     Figure       document 01's checked figures P11 and P12
-- and, for the crate's own use,
--     Inside       what its functions ask of each other and tell each other
pub mod Plan
pub mod Figure
pub mod Inside
