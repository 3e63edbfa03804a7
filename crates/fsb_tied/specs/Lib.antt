pub mod RunBytes
