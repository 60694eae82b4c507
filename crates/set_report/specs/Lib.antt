pub mod Bounds
pub mod Joints
pub mod Shown
pub mod Reports
pub mod Texts
