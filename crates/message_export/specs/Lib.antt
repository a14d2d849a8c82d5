pub mod Capture
pub mod Exported
pub mod JsonLines
