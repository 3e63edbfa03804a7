pub mod FillLists
