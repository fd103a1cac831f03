pub mod Answer
pub mod Item
pub mod Post
pub mod Printed
pub mod Results
