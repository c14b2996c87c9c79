-- What each token does, by the place in the grammar where it stands.
pub mod Attribute
pub mod Module
pub mod Wire
pub mod Cell
pub mod Tree
pub mod Process
