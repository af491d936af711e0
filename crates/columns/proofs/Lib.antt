-- Laws of the state in columns. Assumes nothing.
pub mod AnswersColumns
pub mod AnswersCalls
pub mod Words
pub mod Fit
pub mod ThereAndBack
pub mod SameState
pub mod CallsAlike
pub mod Converted
