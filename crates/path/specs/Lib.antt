pub mod Normal
pub mod Text
pub mod TextGrammar
pub mod Inside
