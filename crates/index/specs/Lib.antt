-- What a reader must believe of an index: document 01, chapter "Bytes of a file".
--     Bytes        16-bit numbers, records, and a length of whole records
--     Index        the rules of a file that passes, as tests and as a record of them
--     Figure       document 01's checked figure P2
-- and, for the crate's own use,
--     Inside       what its functions ask of each other and tell each other
pub mod Bytes
pub mod Index
pub mod Figure
pub mod Inside
