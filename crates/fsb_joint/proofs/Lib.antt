pub mod Where
pub mod Bits
pub mod Numbers
pub mod Joints
pub mod SetLaws
pub mod LineClocks
