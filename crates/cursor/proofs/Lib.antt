-- Laws of the bytes that are left, and of the next. Assumes nothing.
pub mod Within
pub mod Next
