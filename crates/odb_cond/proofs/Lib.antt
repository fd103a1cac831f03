pub mod Filters
pub mod Gains
pub mod Lacking
pub mod Pins
pub mod Relations
pub mod Same
pub mod Searches
