-- Demand 1: column numbers are below the widths they are read at; the labels of FROM; positions inside their tables.
pub mod Below
pub mod Tabulate
pub mod Swapped
pub mod Scopes
pub mod Labels
pub mod ColumnOrder
pub mod Bounded
pub mod FromStages
pub mod HiddenStages
pub mod SelectStages
pub mod Statements
pub mod Positions
pub mod Desugared
