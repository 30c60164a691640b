pub mod Fronts
pub mod Lists
pub mod Magnitudes
pub mod Printing
pub mod Reading
pub mod Rows
pub mod Signs
pub mod Texts
