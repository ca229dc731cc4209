-- What is known of the bytes of an ERE's matches, as it is found and stored.
pub mod Leads
pub mod Spelt
