pub mod Dated
mod StoreHandedOverBeforeArrival
mod DeferredAndReplied
mod UpgradeLostAndHanded
mod CoherentMore
mod WorkedLoads
