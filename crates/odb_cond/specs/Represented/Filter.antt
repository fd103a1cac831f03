-- What a filter of the code stands for, and its members.
use Rattle.std.specs.Prelude.{map}
use Rattle.odb_cond.specs.Filter as model
use Rattle.odb_cond.specs.declared.filter.Filter.TheInside.{Inside}
use Rattle.odb_cond.specs.declared.filter.Member.{Member}
use Rattle.odb_cond.specs.declared.filter.Member.TheVariants.{Always, When}

abbrev pub member_of : Member → model.Member
member_of (Always b) = model.always b
member_of (When c) = model.when c

abbrev pub filter_of : Inside → model.Filter
filter_of a = map member_of a.members.items
