pub mod NumberLemmas
pub mod BoundLemmas
pub mod Within
pub mod Lengths
pub mod Apart
