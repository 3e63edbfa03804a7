pub mod Watched
pub mod Watching
