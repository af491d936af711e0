-- What the histories say, and that the words in their place say it.
pub mod Find
pub mod Words
pub mod Room
pub mod Entry
pub mod Reading
pub mod Bound
pub mod Carried
pub mod Asked
pub mod Marked
pub mod Under
pub mod Few
pub mod Back
pub mod Loading
