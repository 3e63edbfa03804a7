pub mod QuietLines
pub mod Showing
pub mod Passing
pub mod SoundSamples
