-- The laws that belong to no one function. Those marked pub are for the functions' proofs and the crates above.
--     Written      a word written after another
--     Answer       how long an answer is
--     Refused      the numbers of the refusals of a file and of a path are from 1 to 9
--     Names        two names are found the same exactly if they are
--     Sites        what a search among the keys comes to, and what is held after a site is added
--     Use          what a `use` answers, and what is held after it
--     Line         what a line says that is answered from the state alone
--     Lines        the lines of a piece of input, one by one
--     Pieces       a session is answered line by line, and its input may come in pieces
--     Done         the lines of an input that were answered so far
--     Fed          what `answer_lines` promises is the session, piece by piece
--     Sentences    document 02, request e), sentence by sentence
--     Small        the shell says no number of more than three digits, and how each is spelled
pub mod Written
pub mod Answer
pub mod Refused
pub mod Names
pub mod Sites
pub mod Use
pub mod Line
pub mod Lines
pub mod Pieces
pub mod Done
pub mod Fed
pub mod Sentences
pub mod Small
