pub mod Trees
pub mod Shared
pub mod Opened
mod NameRows
mod MismatchRows
mod PlaceRows
mod WholeRows
mod StatementRows
mod MainRows
mod AcceptedRows
mod BothModelRows
mod ModelRows
mod LargeRows
mod PacketRow
mod GivenRows
mod ScopeRows
mod ArmRows
mod LoopRows
mod OrderRows
mod RunRows
mod FieldRows
pub mod WholeOrder
pub mod FieldOrder
pub mod DeclaratorOrder
pub mod GivenOrder
pub mod StatementOrder
pub mod FunctionOrder
pub mod ProgramOrder
pub mod Meanings
pub mod Growing
pub mod Paths
pub mod Turns
pub mod Behind
pub mod Labels
