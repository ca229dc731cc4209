-- What the reader of EREs keeps, and what each turn makes of it.
pub mod Reading
pub mod Built
pub mod Standing
