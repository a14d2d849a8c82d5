pub mod Answers
pub mod ClaimsView
pub mod Fitting
pub mod Printing
pub mod RawLines
pub mod ReaderView
pub mod Typed
