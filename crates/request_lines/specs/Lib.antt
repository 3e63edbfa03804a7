pub mod Tables
pub mod Standing
