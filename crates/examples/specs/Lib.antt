pub mod Plans
pub mod Months
pub mod Readings
pub mod Agreement
pub mod Measures
