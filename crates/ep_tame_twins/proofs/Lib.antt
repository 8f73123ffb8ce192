pub mod Values
pub mod Alike
pub mod Parts
pub mod LoadsNear
pub mod LoadsAlike
pub mod Expressions
