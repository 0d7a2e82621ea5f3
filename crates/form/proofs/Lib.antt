-- What the form test answers: its tests clause by clause, and the whole.
pub mod Turns
pub mod RuleForm
pub mod MaskBits
pub mod Ascending
pub mod SetTests
pub mod SetForm
pub mod KernelForm
pub mod Formed
pub mod OneOutcome
