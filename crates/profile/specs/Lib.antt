-- What a reader must believe of a profile: document 01, chapter "A path", with the engine's rows of chapter "A reading".
--     Profile      the samples' readings, and the order of the checks of every call on a path
--     Row          the rows for the engine
-- and, for the crate's own use,
--     Inside       what its functions ask of each other
pub mod Profile
pub mod Row
pub mod Inside
