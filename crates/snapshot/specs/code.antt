-- How the code holds things: contracts of inner functions cite these definitions; the exported contracts and demand 3 do not rest on them.
pub mod Writing
