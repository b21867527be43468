pub mod Immediate
pub mod Rows
pub mod Instruction
