-- The laws that belong to no one function. Those marked pub are for the functions' proofs and the crates above.
--     Clear        the clear test, sample by sample; a taller mast never blocks
--     Rounding     quotients rounded up
--     Masts        the least second mast, and the least sum
--     Plan         demand 3 allows one outcome, and the executable plan is it
pub mod Clear
pub mod Rounding
pub mod Masts
pub mod Plan
