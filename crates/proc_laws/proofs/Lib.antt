pub mod Turns
pub mod CountingRules
pub mod RebuildDriven
pub mod RebuildFaults
pub mod RebuildProcesses
pub mod Taking
