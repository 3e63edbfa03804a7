pub mod Choosing
pub mod Behind
pub mod Texts
pub mod Picking
