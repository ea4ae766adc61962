-- Laws that the proofs of several functions use.
pub mod Trees
mod Equal
mod Literals
mod Roots
mod EqualWalk
mod Same
mod Operators
mod Walks
mod Collects
pub mod KindNumbers
