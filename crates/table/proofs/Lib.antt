-- Laws of lent tables, by what they speak of.
pub mod Once
pub mod Read
pub mod RuleNumbers
pub mod Rows
pub mod Starts
pub mod SameKernel
pub mod Becoming
pub mod Formed
pub mod OneOutcome
