mod Judging
mod Places
mod Passing
mod Seeing
mod Wholes
mod Explained
