use Rattle.std.proofs.Common.{rules, ◌≡◌, ◌++◌, ◌∷◌, [], map, option_to_list, option_copied, sym, ap, subst, ◌∙◌}
use Rattle.std.proofs.lemmas.List.{map-append}
use Rattle.std.proofs.lemmas.Map.Iter.{iter_end}
use Rattle.std.specs.Map.Iter.{deref_pair}
use Rattle.odb_tables.specs.Change.{change}
use Rattle.odb_tables.specs.Represented.Draft.{overlaid}
use Rattle.odb_tables.specs.Represented.Keyed.{shown}
use Rattle.odb_tables.specs.Represented.TableChange.{AreDistinct}
use Rattle.odb_atoms.specs.FinMap as finite
use Rattle.odb_tables.specs.Represented.Overlay.{row_of}
use Rattle.odb_tables.specs.Represented.RowChange.{change_at}
use Rattle.odb_tables.proofs.TableChanges.{changes-more, changes-are, changes_of, distinct-changes, distinct-shown, entries-are, touched_entry}
use Rattle.odb_tables.proofs.overlay.Overlay.changes.Goals as goal

pub loop-key-preserved : goal.loop-key-preserved
loop-key-preserved c =
    let t = c.args.base.now in
    let u = c.in-Some.key.now in
    let grown : c.add.new.rows.items ≡ c.loop-key.rows.items ++ option_to_list c.in_ok-change.change = search rules in
    let made : c.in_ok-change.change ≡ change_at u (row_of (option_copied c.share.result)) (row_of c.in-Some.now.now) = search rules in
    let old : row_of (option_copied c.share.result) ≡ finite.get t u = search rules in
    grown ∙ (λ i. c.loop-key.invariant i ++ option_to_list ((made ∙ ap (λ r. change_at u r (row_of c.in-Some.now.now)) old) i))
    ∙ sym (changes-more t (map touched_entry c.loop-key.yielded) (touched_entry (c.in-Some.key, c.in-Some.now)))
    ∙ ap (changes_of t) (sym (map-append touched_entry c.loop-key.yielded ((c.in-Some.key, c.in-Some.now) ∷ [])))

pub new-requires : goal.new-requires
new-requires c =
    let t = c.args.base.now in
    let all : map deref_pair c.loop-key.yielded ≡ c.self.inside.rows.entries = search (rules, iter_end) in
    let items : c.loop-key.rows.items ≡ changes_of t (map (shown row_of) c.self.inside.rows.entries) = c.loop-key.invariant ∙ ap (changes_of t) (entries-are c.loop-key.yielded c.self.inside.rows.entries all) in
    subst AreDistinct (sym items) (distinct-changes t (map (shown row_of) c.self.inside.rows.entries) (distinct-shown c.self.inside.rows.entries c.len.ensures.unique))

pub returns : goal.returns
returns c =
    let t = c.args.base.now in
    let all : map deref_pair c.loop-key.yielded ≡ c.self.inside.rows.entries = search (rules, iter_end) in
    let items : c.loop-key.rows.items ≡ changes_of t (map (shown row_of) c.self.inside.rows.entries) = c.loop-key.invariant ∙ ap (changes_of t) (entries-are c.loop-key.yielded c.self.inside.rows.entries all) in
    c.new.ensures ∙ ap finite.from_entries items ∙ changes-are t (map (shown row_of) c.self.inside.rows.entries) (distinct-shown c.self.inside.rows.entries c.len.ensures.unique) ∙ ap (λ o. change t (overlaid t o)) c.self.view_is
