mod FirstClocks
mod Kept
