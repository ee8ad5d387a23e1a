-- The laws that belong to no one function.
--     Line         steps that refuse in the order of a list of lines
--     Order        the order of checks of each call
--     Call         demand 1 from the entry of a call
pub mod Line
pub mod Order
pub mod Call
