pub mod Rises
pub mod Calls
pub mod Kept
pub mod Leaves
pub mod Forgetting
