pub mod TryKeys
