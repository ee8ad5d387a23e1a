-- What a reader must believe of the search for masts: the clear test of document 01, "A path", on numbers, and demand 3.
--     Clear        the clear test on what each sample needs
--     Plan         demand 3, and an executable form of it
-- and, for the crate's own use,
--     Inside       what its functions ask of each other and tell each other
pub mod Clear
pub mod Plan
pub mod Inside
