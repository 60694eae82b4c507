pub mod Edges
pub mod Unused
pub mod Laws
