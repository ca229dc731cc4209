-- What a walk over the table of an ERE does, and what it finds.
pub mod Any
