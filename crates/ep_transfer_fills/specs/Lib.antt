pub use Rattle.ep_transfer_writes.specs.Waiting
pub mod Inputs
