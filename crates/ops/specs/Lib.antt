pub mod RowOp
pub mod Ops
