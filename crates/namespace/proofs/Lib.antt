pub mod PathKeys
pub mod Calls
pub mod ValueCalls
pub mod Bare
pub mod SearchCalls
pub mod ListCalls
pub mod Laws
pub mod ListLaws
