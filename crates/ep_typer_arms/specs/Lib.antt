pub mod FileEnvironments
