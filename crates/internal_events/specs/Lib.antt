pub mod HeadView
pub mod ListView
