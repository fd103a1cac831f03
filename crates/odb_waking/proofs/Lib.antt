pub mod LoopKept
pub mod PumpKept
