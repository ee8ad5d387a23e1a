-- What a reader must believe of a terrain file: document 01, chapter "Bytes of a file", and the order of the checks 1, 2, 3.
--     Check        the order of the checks 1, 2, 3
--     Record       which rectangles are covered, and the record that a point is read from
--     Word         the words of a rectangle
--     Figure       document 01's checked figure P6
-- and, for the crate's own use,
--     Inside       what its functions ask of each other and tell each other
pub mod Check
pub mod Record
pub mod Word
pub mod Figure
pub mod Inside
