pub use Rattle.ep_transfer_fills.specs.Waiting
pub mod Typed
