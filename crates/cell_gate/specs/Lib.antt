pub mod Gates
pub mod Control
pub mod Store
pub mod Storage
