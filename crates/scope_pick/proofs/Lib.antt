pub mod Firsts
pub mod Indices
pub mod Within
pub mod OneWord
