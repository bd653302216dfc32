mod Started
mod Told
