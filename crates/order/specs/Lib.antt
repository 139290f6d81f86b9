pub mod Order
pub mod Groups
pub mod Rearranged
pub mod Queue
pub mod Links
