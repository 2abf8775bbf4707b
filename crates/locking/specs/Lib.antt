pub mod Acting
pub mod Edits
pub mod Holding
pub mod Keeping
pub mod Playing
pub mod Ranking
pub mod Steps
pub mod Totals
