-- What a reader must believe of a link: the clear test of document 01, chapter "A path".
--     Clear        the clear test, and the verdict
--     Figure       document 01's checked figure P10
pub mod Clear
pub mod Figure
