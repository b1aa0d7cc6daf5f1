pub mod NotAbove
