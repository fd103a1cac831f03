use Rattle.std.proofs.Common.{rules, ◌≡◌, ◌<◌, ◌++◌, length, option_to_list, slice_index_or, string_bytes}
use Rattle.odb_schema.specs.Schema.{column_place}
use Rattle.odb_integrity.proofs.Named.{filter_map_more}
use Rattle.odb_integrity.proofs.indexes.places_of.Goals as goal

pub loop-name-preserved : goal.loop-name-preserved
loop-name-preserved c =
    let cs = c.args.table.now.columns in
    let names = c.deref-name-items.result.now in
    let i = c.loop-name.name-index in
    let x = c.name-item.result in
    let inside : i < length names = search rules in
    let is : x ≡ slice_index_or names i x = search rules in
    let more : c.append_place.new.places.items ≡ c.loop-name.places.items ++ option_to_list (column_place cs (string_bytes x)) = search rules in
    filter_map_more string_bytes (column_place cs) c.loop-name.places.items c.append_place.new.places.items names i x inside is c.loop-name.invariant more
