-- The grammar of EREs: which bytes spell which tree.
pub mod Bytes
pub mod Grammar
pub mod Read
