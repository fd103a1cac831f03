use Rattle.std.proofs.Common.{rules, ◌≡◌, List, Some, None, map, position, slice_index_or, sym, ap, ◌∙◌}
use Rattle.std.specs.Arc.{arc_value}
use Rattle.std.specs.List.{remove}
use Rattle.odb_request.specs.Represented.Change.{change_of}
use Rattle.odb_request.specs.declared.change.Change.{Change}
use Rattle.odb_schema.specs.Schema.{Schema}
use Rattle.odb_service.specs.Session.{filter_of}
use Rattle.odb_sessions.proofs.TakenFilters.{is_for, no_filter, others_stay, taken_filter}
use Rattle.odb_sessions.proofs.item.Changes.take.Goals as goal

pub returns-in_default-clause-filter : goal.returns-in_default-clause-filter
returns-in_default-clause-filter c = λ f.
    let s : Schema = arc_value c.args.self.now.schema in
    let cs : List Change = c.args.self.now.changes.items in
    let none : position (is_for s c.args.name.now) cs ≡ None = search rules in
    no_filter s c.args.name.now cs f none

pub returns-clause-filter : goal.returns-clause-filter
returns-clause-filter c = λ f.
    let s : Schema = arc_value c.args.self.now.schema in
    let cs : List Change = c.args.self.now.changes.items in
    let schema : c.deref.result.now ≡ s = search rules in
    let slice : c.as_slice.result.now ≡ cs = search rules in
    let found : position (is_for s c.args.name.now) cs ≡ Some c.in-Some.place = (λ i. position (is_for (sym schema i) c.args.name.now) (sym slice i)) ∙ sym c.place_of.ensures ∙ c.in-Some.is in
    let x : Change = c.remove-filter.result in
    let at : x ≡ slice_index_or cs c.in-Some.place x = search rules in
    taken_filter s c.args.name.now cs c.in-Some.place x f found at

pub returns-clause-others : goal.returns-clause-others
returns-clause-others c = λ n f other.
    let s : Schema = arc_value c.args.self.now.schema in
    let cs : List Change = c.args.self.now.changes.items in
    let schema : c.deref.result.now ≡ s = search rules in
    let slice : c.as_slice.result.now ≡ cs = search rules in
    let found : position (is_for s c.args.name.now) cs ≡ Some c.in-Some.place = (λ i. position (is_for (sym schema i) c.args.name.now) (sym slice i)) ∙ sym c.place_of.ensures ∙ c.in-Some.is in
    let gone : c.remove-filter.new.self.items ≡ remove cs c.in-Some.place = search rules in
    ap (λ (ds : List Change). filter_of (map (change_of s) ds) n f) gone ∙ others_stay s c.args.name.now cs c.in-Some.place n f found other
