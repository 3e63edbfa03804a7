mod NextLine
mod Same
