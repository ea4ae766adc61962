pub mod Signed
mod Fitted
mod Operations
mod Products
