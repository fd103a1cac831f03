-- Transactions that wait, while they are tried again one after another.
use Rattle.std.specs.Prelude.{◌≡◌, ◌≤◌, ℕ, ◌+◌, ◌==◌, List, ◌++◌, length, if◌then◌else◌, None}
use Rattle.odb_service.specs.Server.{Server}
use Rattle.odb_service.specs.World.{Waiting, is_untried, retry_all, split_first}
use Rattle.odb_core.specs.Represented.Steps.{by_service, let_wait}

-- Those that wait in the server `now` were looked at, and the rest comes after them. Where there are still n commits each of them was tried; else one of them changed the database, and is gone.
pub record IsRetrying (old now : Server) (n : ℕ) (rest : List Waiting) : Type 0 where
  pub same : by_service retry_all old ≡ by_service retry_all (let_wait (now.world.waiting ++ rest) now)
  pub tried : now.world.commits ≡ n → split_first (is_untried n) now.world.waiting ≡ None
  pub fewer : (if now.world.commits == n then 0 else 1) + length now.world.waiting + length rest ≤ length old.world.waiting
