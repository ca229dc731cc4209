-- Words whose operands are places, and their operands by number.
pub mod Numbered
