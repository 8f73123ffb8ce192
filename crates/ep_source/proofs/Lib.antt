mod Counts
mod Stages
