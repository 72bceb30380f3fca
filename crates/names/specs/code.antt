-- How the code holds things: contracts of inner functions cite these definitions; the exported contracts and demand 3 do not rest on them.
pub mod ByteClasses
pub mod KeyParts
pub mod KeyWhole
pub mod HeldKey
pub mod Decoding
pub mod Wrote
pub mod Scanned
