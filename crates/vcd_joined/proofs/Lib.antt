mod Header
mod Values
mod Events
