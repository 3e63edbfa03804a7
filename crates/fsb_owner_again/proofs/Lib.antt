pub mod AnyKept
pub mod PairRows
pub mod Given
pub mod PastPairs
pub mod KeptPairs
pub mod GivenRows
