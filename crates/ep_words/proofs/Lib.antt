mod Digits
mod Parted
mod Rules
