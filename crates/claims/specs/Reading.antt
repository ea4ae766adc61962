-- What reading guarantees: the limits, that capping a count changes nothing, and that values and names have what the fields of every line give.
pub mod Rules
pub mod Cells
pub mod Limits
pub mod Capped
pub mod Has
pub mod Fields
pub mod Literals
pub mod Sound
pub mod Lines
pub mod Records
pub mod Expression
pub mod Depth
pub mod Statement
pub mod Catalog
