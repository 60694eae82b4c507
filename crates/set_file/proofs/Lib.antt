pub mod Numbers
pub mod Cuts
pub mod Readings
pub mod Meaning
pub mod Fitting
pub mod Blame
pub mod Places
