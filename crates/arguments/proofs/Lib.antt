pub mod TakenLaws
pub mod RefusalLaws
