use Rattle.std.proofs.Common.{rules, ◌≡◌, ℕ, ◌-◌, ◌^◌, ◌<◌, List, [], ◌++◌, nat_le, true, subst, sym, ap, ◌∙◌}
use Rattle.odb_atoms.specs.FinMap as finite
use Rattle.odb_tables.specs.Change.{Changes, undone}
use Rattle.odb_chain.proofs.Histories.{or_left}
use Rattle.odb_chain.specs.Represented.MarkedVersions.{has_label}
use Rattle.odb_chain.proofs.Contents.{label_of}
use Rattle.std.proofs.Common.{nat_eq, ◌||◌}
use Rattle.odb_chain.specs.Represented.Chain.{here}
use Rattle.odb_chain.specs.OldRows.{Rows, content_at}
use Rattle.odb_chain.specs.Represented.Chain.{Chain, here, is_roomy, marked_versions}
use Rattle.odb_chain.specs.Represented.MarkedVersions.{IsPast, is_kept, is_marked}
use Rattle.odb_chain.specs.Represented.Chain.{AreApart}
use Rattle.odb_chain.proofs.Views.{apart}
use Rattle.odb_chain.proofs.chain.Chain.prepare.Goals as goal
use Rattle.std.proofs.lemmas.Result.{on_ok_weaker}
use Rattle.odb_chain.proofs.Contents.{nothing_named, reached_at, same_content, undone_before}

pub returns-then-is_empty-clause-ok : goal.returns-then-is_empty-clause-ok
returns-then-is_empty-clause-ok c = nothing_named c.args.change.now c.args.self.now (c.is_empty.ensures.none (search rules))

pub returns-clause-ok : goal.returns-clause-ok
returns-clause-ok c =
    let x : Chain = c.make_room.new.self in
    let n = c.in-Some.newest in
    let roomy : (is_roomy x.fresh x.room ≡ true) × (x.version < 2 ^ 64 - 1) = c.in_ok-make_room.ensures.ok in
    let newest : (p : ℕ) → is_marked p (marked_versions x) ≡ true → (nat_le p n ≡ true) × (is_kept n x.live p ≡ true) = c.in-Some.ensures.some in
    on_ok_weaker c.record_all.result
    (λ reached. (
      λ some. subst (λ (y : Chain). (is_roomy y.fresh y.room ≡ true) × (y.version < 2 ^ 64 - 1)) (sym c.self.view_is) roomy,
      λ p there u some. reached_at n p c.record_all.new.self.rows u (newest p (ap (λ (y : Chain). is_marked p (marked_versions y)) (sym c.self.view_is) ∙ there)).0 (reached u some),
    )) c.record_all.ensures.ok

pub returns-clause-stands : goal.returns-clause-stands
returns-clause-stands c = λ t of.
    let old : Chain = c.args.self.now in
    let x : Chain = c.make_room.new.self in
    let n = c.in-Some.newest in
    let new : Rows = c.record_all.new.self.rows in
    let version : x.version ≡ old.version = c.make_room.ensures.version in
    let live : x.live ≡ old.live = c.make_room.ensures.live in
    let fresh : x.fresh ≡ old.fresh = c.make_room.ensures.fresh in
    let rows : c.self.inside.old_rows.rows ≡ old.rows = ap (λ (y : Chain). y.rows) c.self.view_is ∙ c.make_room.ensures.rows in
    let same_live : c.of-marked_versions.result ≡ x.live = c.of-marked_versions.ensures ∙ c.as_slice.ensures.value ∙ ap (λ (y : Chain). y.live) c.self.view_is in
    let newest : (p : ℕ) → is_marked p (marked_versions x) ≡ true → (nat_le p n ≡ true) × (is_kept n x.live p ≡ true) = c.in-Some.ensures.some in
    let past : nat_le n x.version ≡ true = c.in-Some.ensures.past in (
      ap (λ (y : Chain). y.version) c.self.view_is ∙ version,
      ap (λ (y : Chain). y.live) c.self.view_is ∙ live,
      ap (λ (y : Chain). y.fresh) c.self.view_is ∙ fresh,
      λ p there.
          let at_x : is_marked p (marked_versions x) ≡ true = (λ i. is_marked p (live i ++ here (version i) (fresh i))) ∙ there in
          let kept : is_kept n c.of-marked_versions.result p ≡ true = ap (λ ls. is_kept n ls p) same_live ∙ (newest p at_x).1 in
          same_content p t t new c.self.inside.old_rows.rows (λ u. (c.record_all.ensures.rows t of u).0 p kept) ∙ ap (content_at p t) rows,
      λ h u.
          let before : IsPast c.self.inside.version (finite.get t u) (finite.get c.self.inside.old_rows.rows u) =
          subst (λ (r : Rows). IsPast c.self.inside.version (finite.get t u) (finite.get r u)) (sym rows) (subst (λ v. IsPast v (finite.get t u) (finite.get old.rows u)) (sym (ap (λ (y : Chain). y.version) c.self.view_is ∙ version)) (h u)) in
          (c.record_all.ensures.rows t of u).1 c.self.inside.version (ap (λ (y : Chain). nat_le n y.version) c.self.view_is ∙ past) before,
    )

pub returns-then-is_empty-clause-labels : goal.returns-then-is_empty-clause-labels
returns-then-is_empty-clause-labels c = λ q u e. or_left (has_label q (finite.get c.args.self.now.rows u)) (is_marked q (marked_versions c.args.self.now)) e

pub returns-in_err-make_room-clause-labels : goal.returns-in_err-make_room-clause-labels
returns-in_err-make_room-clause-labels c = λ q u e. or_left (has_label q (finite.get c.args.self.now.rows u)) (is_marked q (marked_versions c.args.self.now)) (ap (λ (r : Rows). has_label q (finite.get r u)) (sym c.make_room.ensures.rows) ∙ e)

pub returns-in_default-clause-labels : goal.returns-in_default-clause-labels
returns-in_default-clause-labels c = λ q u e. or_left (has_label q (finite.get c.args.self.now.rows u)) (is_marked q (marked_versions c.args.self.now)) (ap (λ (r : Rows). has_label q (finite.get r u)) (sym c.make_room.ensures.rows) ∙ e)

pub returns-clause-labels : goal.returns-clause-labels
returns-clause-labels c = λ q u e.
    let d : Changes = c.args.change.now in
    let old : Chain = c.args.self.now in
    let x : Chain = c.make_room.new.self in
    let n = c.in-Some.newest in
    let rows : c.self.inside.old_rows.rows ≡ old.rows = ap (λ (y : Chain). y.rows) c.self.view_is ∙ c.make_room.ensures.rows in
    let at_x : is_marked n (marked_versions x) ≡ true = c.in-Some.ensures.marked in
    let there : is_marked n (marked_versions old) ≡ true = (λ i. is_marked n (sym c.make_room.ensures.live i ++ here (sym c.make_room.ensures.version i) (sym c.make_room.ensures.fresh i))) ∙ at_x in
    label_of q n (has_label q (finite.get old.rows u)) (marked_versions old) there (ap (λ (r : Rows). has_label q (finite.get r u) || nat_eq q n) (sym rows) ∙ (c.record_all.ensures.rows (undone finite.empty d) (undone_before finite.empty d) u).2 q e)

pub of-marked_versions-requires : goal.of-marked_versions-requires
of-marked_versions-requires c = subst AreApart (sym c.as_slice.ensures.value) (apart c.self.inside.version c.self.inside.live.items c.self.invariant)
