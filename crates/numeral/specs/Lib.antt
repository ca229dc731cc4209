-- A text's number, its numeric look, and a number's text, as document 01 has them.
pub mod Form
pub mod Judgement
pub mod Answers
pub mod Capped
