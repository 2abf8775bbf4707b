pub mod Shared
pub mod FirstTasks
