pub mod Parts
pub mod Slots
pub mod Sounding
pub mod Beginning
pub mod Standing
pub mod Interface
