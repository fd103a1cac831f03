pub mod Each
pub mod OnlyPosts
pub mod Results
pub mod Retried
pub mod SessionMaps
pub mod Splits
pub mod WhatIsOwed
pub mod WhoIsOpen
