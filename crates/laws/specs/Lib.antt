pub mod Pick
pub mod Loop
pub mod Bytes
pub mod Placed
pub mod Once
