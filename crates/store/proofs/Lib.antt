pub mod Lists
pub mod Tables
pub mod Images
pub mod Layouts
pub mod Indexing
pub mod Calls
