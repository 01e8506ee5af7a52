pub mod RowOpLaws
