-- How the code holds things: contracts of inner functions cite these definitions; the exported contracts and demand 3 do not rest on them.
pub mod Turn
pub mod Rows
pub mod Layout
pub mod Entry
pub mod Groups
pub mod Index
pub mod With
pub mod Writes
pub mod Refusals
pub mod Deciding
pub mod Withdrawal
pub mod Judged
pub mod Pending
pub mod Standing
