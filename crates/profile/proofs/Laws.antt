-- The laws that belong to no one function. Those marked pub are for the functions' proofs and the crates above.
--     Profile      what a profile holds
--     Link         demand 2 of the profile; what a call asks besides does not change the link
--     Row          the row of each sample
--     Witness      some path is read
pub mod Profile
pub mod Link
pub mod Row
pub mod Witness
pub mod Refused
