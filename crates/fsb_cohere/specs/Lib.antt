pub mod Cohere
