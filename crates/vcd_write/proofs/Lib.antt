pub mod ValueText
pub mod RoomFacts
pub mod HeaderText
pub mod ClockText
pub mod Clocks
