mod Typed
mod Off
mod Found
mod Set
mod Handed
mod Evaluated
