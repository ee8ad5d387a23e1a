-- What a reader must believe of the ground of a file: document 01, chapter "Ground of a file", with the weights of chapter "A reading".
--     Outcome      what every call comes to: an answer, or a numbered refusal
--     Refusal      the refusals by name, and what an answer in Rattle comes to
--     Every        a test at each number of a range
--     Measure      whole metres and 500-metre units
--     Boundary     formula 1, the rows, the bases and zones, the base of a northing
--     Name         the file's letter and name
--     Ground       the ground of a file that is opened, and which points it holds
--     Place        where a point lies, and its corners' weights
--     Seam         the rectangles that a point on a seam may be read from (document 02, request b)
--     Figure       document 01's checked figures: what each claims, and P1, P3, P4 and P5
pub mod Outcome
pub mod Refusal
pub mod Every
pub mod Measure
pub mod Boundary
pub mod Name
pub mod Ground
pub mod Place
pub mod Seam
pub mod Figure
