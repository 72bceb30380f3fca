pub mod Tag
pub mod Element
pub mod Tell
pub mod Judge
pub mod Import
pub mod code
