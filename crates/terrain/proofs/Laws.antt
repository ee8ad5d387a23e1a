-- The laws that belong to no one function. Those marked pub are for the functions' proofs and the crates above.
--     Checked      which files pass; the records of covered rectangles lie in them and are their rectangles' own
--     Taken        the record that a point is read from
--     Word         a word is its code and its elevation
--     Means        answers that mean the same are the same
--     Witness      some file passes, and the record of a rectangle is taken for each of its four corners
pub mod Checked
pub mod Taken
pub mod Word
pub mod Means
pub mod Witness
