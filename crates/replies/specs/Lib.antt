-- What is printed for a reply.
pub mod Printed
pub mod Reply
