-- What the contracts on changes cite.
pub mod Touch
pub mod Change
