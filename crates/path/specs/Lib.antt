-- What a reader must believe of a path: document 01, chapter "A path", and the order of the checks 4, 4, 7, 8.
--     First        the first number at which a test holds
--     Path         Q, N, where the samples lie, and the order of the checks 4, 4, 7, 8
--     Figure       document 01's checked figure P9
-- and, for the crate's own use,
--     Inside       what its functions ask of each other and tell each other
pub mod First
pub mod Path
pub mod Figure
pub mod Inside
