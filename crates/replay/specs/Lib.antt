pub mod Cases
pub mod Replay
