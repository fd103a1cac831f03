-- What the types of the code stand for.
pub mod Cells
pub mod Context
pub mod Draft
pub mod Layout
pub mod Merged
pub mod Parts
pub mod Ran
pub mod Results
pub mod Stop
