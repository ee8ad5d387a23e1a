-- What a reader must believe of the lines of the plan shell: document 02, request e).
--     Spell        the commands, and the bytes that spell each: which lines are legal
--     Bad          which lines are bad, and at which column
--     Line         the reading of a line, as a program can do it
--     Text         the line that some bytes begin with
--     Key          the number that stands for a name
-- and, for the crate's own use,
--     Inside       what its functions tell each other
pub mod Spell
pub mod Bad
pub mod Line
pub mod Text
pub mod Key
pub mod Inside
