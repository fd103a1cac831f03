mod Candidates
pub mod Changes
mod Conditions
mod Covering
mod Counts
mod Digests
mod Drafts
mod Facets
mod Found
mod Grounds
mod Installs
mod KeptColumns
pub mod KeyedMaps
mod Keys
pub mod Leading
mod Mentions
pub mod Ordered
mod Overlays
mod PairSets
mod PutChanges
mod RowIndexes
pub mod Selected
mod Steps
mod SameValues
mod Stamps
mod TableChanges
mod Touching
mod Twins
pub mod TypedDatabases
