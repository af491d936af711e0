pub mod AnswersPieces
pub mod Pieces
pub mod NoneArises
