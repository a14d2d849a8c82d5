pub mod Disks
pub mod Hosts
pub mod Kept
pub mod Recorded
