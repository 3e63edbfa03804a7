pub mod MovedChunks
pub mod Fouls
pub mod AuditRegisters
pub mod Audit
