-- The work area of a derivation: where each number stands and what the numbers keep (Area), what gathering the spans leaves (Gathered),
-- and the words for its steps (Steps).
pub mod Area
pub mod Gathered
pub mod Steps
