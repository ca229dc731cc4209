-- Laws on the working room.
pub mod Outside
pub mod Kept
pub mod Blockwise
pub mod Slotwise
pub mod Entrywise
pub mod Decimal
pub mod Stored
pub mod Sizes
