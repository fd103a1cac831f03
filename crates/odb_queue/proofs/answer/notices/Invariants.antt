use Rattle.std.proofs.Common.{◌≡◌, ◌≤◌, length, map, take}
use Rattle.std.specs.Prelude.{vec_len, vec_capacity}
use Rattle.odb_queue.specs.Represented.Post.{post_of, told_of}
use Rattle.odb_locks.specs.Represented.Notice.{notices_of}
use Rattle.odb_queue.proofs.answer.notices.Given as goal

abbrev pub invariant-loop-notice : goal.invariant-loop-notice
invariant-loop-notice l =
    (map post_of l.posts.items ≡ map told_of (notices_of (take l.notice-index l.notices)))
    × (vec_len l.posts ≤ l.notice-index) × (length l.notices ≤ vec_capacity l.posts)
