mod Bits
mod DigitFacts
mod TappedFacts
mod SettleFacts
mod RowFacts
mod Marks
mod Known
mod Opening
pub mod Interface
