mod Crossing
mod OfRows
mod Shares
