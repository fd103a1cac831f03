-- Why a commit can't be counted.
use Rattle.std.specs.Prelude.{ℕ, ◌-◌, ◌^◌, ◌==◌, cond}
use Rattle.odb_recent.specs.declared.refusal.Refusal.{Refusal}
use Rattle.odb_recent.specs.declared.refusal.Refusal.TheVariants.{Memory, TooMany}

-- where there were as many commits as have numbers, and else for want of memory
abbrev pub refused : ℕ → Refusal
refused commits = cond (commits == 2 ^ 64 - 1) TooMany Memory
