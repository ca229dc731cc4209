-- Laws. The reader of statements, which writes code as it goes.
pub mod Cases
pub mod Blocks
pub mod Bodies
pub mod Forms
