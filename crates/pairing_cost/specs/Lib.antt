pub mod Floor
pub mod Table
pub mod Measured
