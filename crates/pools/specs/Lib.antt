pub mod Names
pub mod PerPool
