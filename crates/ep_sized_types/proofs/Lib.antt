pub mod Models
mod Sized
