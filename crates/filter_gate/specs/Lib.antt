pub mod Gate
pub mod GateView
pub mod RowView
pub mod Stands
