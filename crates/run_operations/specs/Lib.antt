-- What the operations with constants, variables, EREs and the output do to the working room.
pub mod Constants
pub mod Assigns
