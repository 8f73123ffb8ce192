mod Laid
mod Doing
mod Typed
