-- The methods of requests that are served (RFC 7047, section 4.1). [P 8.1, 16]
use Rattle.std.specs.Prelude.{ℕ, Bool, ◌||◌, List, codes, bytes_eq}

-- all of RFC 7047, and `monitor_cond`, `monitor_cond_since` and `monitor_cond_change` of ovsdb-server(7)
abbrev pub served : List ℕ → Bool
served m =
    bytes_eq m (codes "list_dbs")
    || (bytes_eq m (codes "get_schema")
    || (bytes_eq m (codes "transact")
    || (bytes_eq m (codes "monitor")
    || (bytes_eq m (codes "monitor_cond")
    || (bytes_eq m (codes "monitor_cond_since")
    || (bytes_eq m (codes "monitor_cond_change")
    || (bytes_eq m (codes "monitor_cancel")
    || (bytes_eq m (codes "lock")
    || (bytes_eq m (codes "steal")
    || (bytes_eq m (codes "unlock")
    || bytes_eq m (codes "echo")))))))))))
