-- Which JSON is an object.
use Rattle.std.proofs.Common.{◌≡◌, is_some, refl}
use Rattle.serde_json.specs.Data.{Data, null, boolean, number, string, array, object}
use Rattle.serde_json.specs.Find.{as_object}
use Rattle.odb_rpc.specs.Message.{is_object}

pub object_by : (d : Data) → is_some (as_object d) ≡ is_object d
object_by null = refl
object_by (boolean b) = refl
object_by (number n) = refl
object_by (string s) = refl
object_by (array ds) = refl
object_by (object ms) = refl
