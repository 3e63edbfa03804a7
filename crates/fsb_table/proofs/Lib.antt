mod FromClock
mod Snoops
mod Goes
mod Outcomes
mod Requests
mod Rows
