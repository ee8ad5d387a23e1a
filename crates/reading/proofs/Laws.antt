-- The laws that belong to no one function. Those marked pub are for the functions' proofs and the crates above.
--     Corner       a corner's weight, part and height; the exact height is within the weighing corners
--     Vote         the greatest of eight sums, ties to the smaller code, is found among the corners that weigh in
--     Edge         the corners around a point between two edges, or on one, are the definition's
--     Reading      demand 2, its first two sentences
--     Answer       what an answer says of the reading that it shows
--     Engine       doubles without loss
--     Means        answers that mean the same are the same
--     Witness      some point is read
pub mod Corner
pub mod Vote
pub mod Edge
pub mod Reading
pub mod Answer
pub mod Engine
pub mod Means
pub mod Witness
