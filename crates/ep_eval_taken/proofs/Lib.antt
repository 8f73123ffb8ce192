pub mod Takens
