pub mod Access
pub mod ByteMemory
pub mod FlatView
pub mod LogView
pub mod Replay
pub mod ScriptOrder
