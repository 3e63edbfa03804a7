mod ReadLines
mod Settling
mod Viewing
