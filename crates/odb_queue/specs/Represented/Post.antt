-- What a post of the code stands for.
use Rattle.std.specs.Prelude.{ℕ}
use Rattle.odb_locks.specs.Locks.{Notice}
use Rattle.odb_service.specs.Session.{Item, no_request, say}
use Rattle.odb_service.specs.World.{notice_of}
use Rattle.odb_queue.specs.Represented.Item.{item_of}
use Rattle.odb_queue.specs.declared.post.Post.{Post}

-- a session and what goes to the end of its queue
abbrev pub post_of : Post → ℕ × Item
post_of p = (p.session, item_of p.item)

-- a notice of locks as a post
abbrev pub told_of : Notice → ℕ × Item
told_of n = (n.session, say no_request (notice_of n))
