pub mod Verdicts
pub mod Moves
pub mod Rules
pub mod Stated
pub mod Queues
pub mod Sifts
pub mod Left
