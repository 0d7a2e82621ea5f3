-- A change of a rule on the numbers is the model's on the table that they hold.
pub mod Unexpanded
pub mod Shut
pub mod Start
pub mod Touched
pub mod PutRule
pub mod UnexpandStart
pub mod Made
pub mod Ends
