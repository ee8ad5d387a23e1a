-- The laws that belong to no one function. Those marked pub are for the functions' proofs and the crates above.
--     Spot         a spot in steps; in a file that passes it is the reading; what it reads in any file; when an entry names no record
--     Looks        a spot looks at nothing else
--     Witness      some spot is read where the check refuses the file
pub mod Spot
pub mod Looks
pub mod Witness
