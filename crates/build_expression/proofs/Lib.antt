-- Laws that the proofs of several functions use.
mod Literals
mod Names
