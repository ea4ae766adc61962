pub mod Encoded
pub mod TreesBack
pub mod Rows
pub mod Built
pub mod ExpressionRuns
pub mod Missing
