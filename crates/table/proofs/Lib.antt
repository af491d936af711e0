-- Laws of the tables in words, of growing states, of steps that follow one another, and of a walk over a list of types. Assumes nothing.
pub mod Tab
pub mod Rows
pub mod Written
pub mod Fields
pub mod Steps
pub mod States
pub mod Pushed
pub mod Primitives
pub mod Encoded
pub mod Laws
pub mod Known
pub mod Grown
pub mod Parts
pub mod Listed
pub mod Walk
pub mod Did
pub mod Linked
