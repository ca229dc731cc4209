-- What the operands of a program's words name, and the variables of a text.
pub mod Named
pub mod Variables
