pub mod Rewrites
