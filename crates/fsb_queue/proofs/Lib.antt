pub mod EntryLists
pub mod Interface
