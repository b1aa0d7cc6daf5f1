mod Copies
mod Longer
mod Places
mod Supported
mod Symmetric
mod Unique
