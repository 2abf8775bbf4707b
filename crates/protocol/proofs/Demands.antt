pub mod Waiting
pub mod SoundStates
pub mod Queues
pub mod Places
pub mod StillWaiting
pub mod ShortQueues
pub mod Foremost
pub mod Totals
