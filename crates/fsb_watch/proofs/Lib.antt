mod MoreTokens
mod Refusals
mod Steps
pub mod WholeTexts
mod Showing
pub mod Interface
