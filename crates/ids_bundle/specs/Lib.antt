pub mod Cuts
pub mod FirstUnit
pub mod Packing
pub mod Stream
pub mod Units
pub mod Unpacking
