mod Telling
mod Following
mod Wholes
