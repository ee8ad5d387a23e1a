-- The laws that belong to no one function. Those marked pub are for the functions' proofs and the crates above.
--     Bytes        whole records, and the bytes of a record
--     Walk         the walk over the index, and what its marks mean
--     Marks        a number that had no mark passes; four do one after the other
--     Passes       the tests are document 01's rules
pub mod Bytes
pub mod Walk
pub mod Marks
pub mod Passes
