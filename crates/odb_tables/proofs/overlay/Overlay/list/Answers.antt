use Rattle.std.proofs.Common.{rules, ◌≡◌, map, sym, ap, ◌∙◌}
use Rattle.std.proofs.lemmas.Map.Iter.{iter_end}
use Rattle.std.proofs.lemmas.Map.Made.{is_some-lookup}
use Rattle.std.specs.List.{list_any}
use Rattle.std.specs.Map.{keys_of}
use Rattle.std.specs.Map.Iter.{deref_pair}
use Rattle.std.specs.Ordering.{eq_by_cmp}
use Rattle.odb_atoms.specs.FinMap as finite
use Rattle.odb_atoms.specs.Represented.Atom.{uuid_of}
use Rattle.odb_atoms.specs.Uuid.{uuid_cmp}
use Rattle.odb_tables.specs.Represented.Overlay.{row_of}
use Rattle.odb_tables.proofs.KeyedMaps.{contains-keyed}
use Rattle.odb_tables.proofs.overlay.Overlay.list.Goals as goal

pub returns-clause-touched : goal.returns-clause-touched
returns-clause-touched c u =
    let es = c.self.inside.rows.entries in
    let all : map deref_pair c.loop-key.yielded ≡ es = search (rules, iter_end) in
    let items : map uuid_of c.loop-key.uuids.items ≡ keys_of (map deref_pair c.loop-key.yielded) = c.loop-key.invariant in
    ap (list_any (eq_by_cmp uuid_cmp u)) (items ∙ ap keys_of all) ∙ sym (is_some-lookup (eq_by_cmp uuid_cmp u) es)
    ∙ contains-keyed row_of c.self.inside.rows u ∙ ap (λ o. finite.contains_key o u) c.self.view_is
