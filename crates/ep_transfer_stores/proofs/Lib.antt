mod Handed
mod Fitting
