pub mod Ends
pub mod NormalForms
pub mod Readers
pub mod Rising
