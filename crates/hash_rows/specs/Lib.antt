pub mod RunTables
