pub mod Decimals
pub mod Fronts
pub mod IntTexts
pub mod Lists
pub mod Magnitudes
pub mod Printing
pub mod Rowing
pub mod Separate
