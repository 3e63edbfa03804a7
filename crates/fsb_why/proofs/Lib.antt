pub mod Shown
pub mod Next
pub mod Beginning
pub mod Alone
