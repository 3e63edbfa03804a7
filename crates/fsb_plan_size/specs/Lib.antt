pub mod AccessCount
