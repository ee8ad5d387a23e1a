-- What a reader must believe of the library, beside what its crates define.
--     Engine       the point for the engine, as C gets it
--     Promise      what each public call promises
--     Order        the numbers of each call in its order of checks, with their conditions
--     Call         demand 1, of any public call, and how each answer shows a refusal
--     Demand       demands 2 and 3 in the caller's own fields, and what the lists of an upload hold
--     Before       what the calls came to before document 02, request b)
--     Figure       document 01's checked figures P1 to P12, as one list
pub mod Engine
pub mod Promise
pub mod Order
pub mod Call
pub mod Demand
pub mod Before
pub mod Figure
