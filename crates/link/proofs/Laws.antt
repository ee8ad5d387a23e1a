-- The laws that belong to no one function. Those marked pub are for the functions' proofs and the crates above.
--     Rounding     rounding only ever makes a path look worse
--     Bounds       no number of the clear test is too large
--     Demands      demand 2 of the verdict, of a path whose profile is given
pub mod Rounding
pub mod Bounds
pub mod Demands
pub mod Between
