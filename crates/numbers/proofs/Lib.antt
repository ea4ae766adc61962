pub mod Mapped
pub mod OperatorCodes
