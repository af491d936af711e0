-- Laws of chains' ends and of the definition's test for types that run into themselves. Assumes nothing.
pub mod Lists
pub mod Itself
pub mod Ends
pub mod Leads
