pub mod GapOf
pub mod QuotingOf
pub mod SettingOf
pub mod SpacingOf
