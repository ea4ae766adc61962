-- Scopes and lists that the code may take for granted.
pub mod Stars
pub mod Hidden
