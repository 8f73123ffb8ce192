pub mod Numbers
pub mod Environments
pub mod Operands
pub mod Statements
pub mod Laws
pub mod ProgramLaws
