-- What the switches of the code stand for.
use Rattle.odb_request.specs.Request as model
use Rattle.odb_request.specs.declared.select.Select.{Select}

abbrev pub select_of : Select → model.Select
select_of s = record { initial = s.initial; insert = s.insert; delete = s.delete; modify = s.modify }
