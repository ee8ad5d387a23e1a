-- The laws that belong to no one function. Those marked pub are for the functions' proofs and the crates above.
--     Needs        the needs of the samples, each in its place once
--     Plan         an answer that demand 3 allows is the executable plan's
--     Demands      demand 3, of a path whose profile is given
pub mod Needs
pub mod Plan
pub mod Demands
