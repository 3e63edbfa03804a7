mod Places
mod Starting
mod Writing
mod Tables
