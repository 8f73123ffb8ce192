mod Alike
mod Both
mod Bytes
mod Splits
