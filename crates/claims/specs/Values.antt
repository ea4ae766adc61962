-- Equality of expressions, exact integer arithmetic, values within 64 bits, refusals that cannot arise.
pub mod Equality
pub mod Powers
pub mod Outcomes
pub mod Values
pub mod Constant
pub mod Impossible
