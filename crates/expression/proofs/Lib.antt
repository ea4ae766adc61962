-- Laws that the proofs of several functions use.
mod Steps
mod Rows
mod Checks
mod ValueNumbers
