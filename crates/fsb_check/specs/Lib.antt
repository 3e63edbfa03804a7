pub mod Found
pub mod DumpJudge
