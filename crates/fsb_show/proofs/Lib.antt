mod Addresses
mod Readings
mod Texts
mod Traces
