pub mod Opcode
pub mod Tree
pub mod Grammar
pub mod Reader
pub mod Stop
pub mod Said
pub mod Promise
