pub mod AskingRows
pub mod EndRows
pub mod WaitLists
