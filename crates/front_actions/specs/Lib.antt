-- What the contracts on actions cite.
pub mod Actions
