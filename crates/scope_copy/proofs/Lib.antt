mod Wired
mod Writing
mod Copies
mod ReadBack
