pub mod Fan
pub mod FanRules
