-- The laws that belong to no one function. Those marked pub are for the functions' proofs and the crates above.
--     First        the first number at which a test holds
--     Steps        Q, and N by halving
--     Line         the line between two numbers, and a path's samples on it
--     Path         a path that was found
pub mod First
pub mod Steps
pub mod Line
pub mod Path
