pub mod DeferralSteps
pub mod RunDeferrals
