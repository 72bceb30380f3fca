pub mod Print
pub mod Snapshot
pub mod Chain
pub mod Demand3
pub mod Examples
pub mod code
