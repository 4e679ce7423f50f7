pub mod Component
pub mod Memory
pub mod Name
pub mod Grammar
pub mod Inside
