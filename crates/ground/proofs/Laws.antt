-- The laws that belong to no one function. Those marked pub are for the functions' proofs and the crates above.
--     Every        a test at each number of a range
--     Test         what a test says past a refusal, and at it
--     Outcome      the steps before an answer
--     Refusal      an answer in Rattle is told by what it comes to
--     Size         the axes of the grid and the weights, over the sizes
--     Boundary     the southern boundaries, and the base of y
--     Ground       which base and zone are named, what a ground that was opened is, and which points a ground holds
--     Place        where a point lies
--     Seam         the rectangles that a point may be read from
pub mod Every
pub mod Test
pub mod Outcome
pub mod Refusal
pub mod Size
pub mod Boundary
pub mod Ground
pub mod Place
pub mod Seam
