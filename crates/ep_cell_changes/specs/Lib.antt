pub mod Entry
pub mod Tests
pub mod Begins
