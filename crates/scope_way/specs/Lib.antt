pub mod Wired
pub mod Variables
pub mod StrictWay
