-- The laws that belong to no one function. Those marked pub are for the functions' proofs and the crates above.
--     Lists        when lists fit; what each entry of a list holds after some were written
--     Survey       the answer to a point of a checked file; what an upload leaves
--     Witness      some survey is given
pub mod Lists
pub mod Survey
pub mod Witness
