pub mod CodedRequests
pub mod DecodedLaws
pub mod DecodedSteps
pub mod Samples
pub mod Interface
