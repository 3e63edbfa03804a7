pub mod Deferrals
pub mod DeferralList
