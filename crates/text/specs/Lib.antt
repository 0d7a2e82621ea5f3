-- Text as bytes, and bytes put into a text.
pub mod Text
pub mod Puts
pub mod Newline
