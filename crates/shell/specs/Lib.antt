-- What a reader must believe of the plan shell: document 02, request e).
--     Answer       the answers, and the bytes of each
--     Session      what each line answers, and a whole session: from what the folder holds and the input to the output
--     Pieces       the same session, of an input that comes in pieces
--     Figure       document 02's session
-- and, for the crate's own use,
--     Inside       what its functions tell each other
pub mod Answer
pub mod Session
pub mod Pieces
pub mod Figure
pub mod Inside
