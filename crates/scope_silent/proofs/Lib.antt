mod Bits
mod Sample
mod Taps
mod Steps
mod Events
