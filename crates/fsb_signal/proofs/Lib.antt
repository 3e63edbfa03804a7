pub mod Numbers
pub mod SameSample
pub mod LineFacts
pub mod AtClock
pub mod Texts
pub mod DumpExamples
pub mod Interface
