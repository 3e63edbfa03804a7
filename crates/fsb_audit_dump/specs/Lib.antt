pub mod Audited
pub mod Auditing
pub mod AuditText
