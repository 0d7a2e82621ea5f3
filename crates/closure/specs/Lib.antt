-- What the contracts on closures cite.
pub mod Item
pub mod Walk
pub mod UnderWay
