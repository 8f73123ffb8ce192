pub mod Telling
