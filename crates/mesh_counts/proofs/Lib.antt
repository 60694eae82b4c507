pub mod Totals
pub mod Counting
pub mod EdgeLaw
pub mod UnusedLaw
