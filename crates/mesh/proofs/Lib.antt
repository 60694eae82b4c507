pub mod Every
pub mod Rules
pub mod StoredRules
pub mod PairingRules
pub mod PairedRules
pub mod GridRules
pub mod MirrorRules
