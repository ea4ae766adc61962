-- A node appended: its cells behind those of its sources, and its record behind theirs.
pub mod Lays
pub mod Kinds
pub mod Lengths
