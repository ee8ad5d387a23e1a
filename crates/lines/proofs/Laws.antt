-- The laws that belong to no one function. Those marked pub are for the functions' proofs and the crates above.
--     Byte         what the tests of a byte say, and the digit of a character of a name
--     Place        what stands at a place of some bytes, and what is read from a place on
--     Word         the bytes of a word, read from a place on
--     Loop         the loops that gather the digits of a name or a number
--     Steps        what is handed over of a part that is read step by step
--     Feed         a command is read from the first line of some bytes alone
--     Reader       what is to be known of a reader of parts, and that parts read one after the other are read so too
--     Grammar      the parts of a line, and the command, are read as they are spelled
--     Line         exactly the legal lines are accepted, each with one reading; which column a bad line has
--     Key          no two names have one key, and a key fits 64 bits
pub mod Byte
pub mod Place
pub mod Word
pub mod Loop
pub mod Steps
pub mod Feed
pub mod Reader
pub mod Grammar
pub mod Line
pub mod Key
