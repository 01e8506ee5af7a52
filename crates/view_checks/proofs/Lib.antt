pub mod RefusalLaws
pub mod ShownLaws
