pub mod Alarm
pub mod Report
pub mod Text
