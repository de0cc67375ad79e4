pub mod SettingContents
