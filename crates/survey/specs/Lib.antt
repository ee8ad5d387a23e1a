-- What a reader must believe of a survey: document 02, request a).
--     Survey       the lists that are lent, what they hold after the call, and the order of checks
-- and, for the crate's own use,
--     Inside       what its functions ask of each other
pub mod Survey
pub mod Inside
