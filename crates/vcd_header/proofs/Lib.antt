mod Faults
mod Sections
mod Readings
mod Numbers
