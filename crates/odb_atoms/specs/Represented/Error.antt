-- What an error of the code stands for.
use Rattle.odb_atoms.specs.Error as model
use Rattle.odb_atoms.specs.declared.error.Error.{Error}
use Rattle.odb_atoms.specs.declared.error.Error.TheVariants as error

abbrev pub error_of : Error → model.Error
error_of error.SyntaxError = model.syntax_error
error_of error.UnknownOperation = model.unknown_operation
error_of error.UnknownTable = model.unknown_table
error_of error.UnknownColumn = model.unknown_column
error_of error.UnknownUuidName = model.unknown_uuid_name
error_of error.DuplicateUuidName = model.duplicate_uuid_name
error_of error.DuplicateUuid = model.duplicate_uuid
error_of error.ConstraintViolation = model.constraint_violation
error_of error.DomainError = model.domain_error
error_of error.RangeError = model.range_error
error_of error.ResourcesExhausted = model.resources_exhausted
error_of error.TimedOut = model.timed_out
error_of error.NotSupported = model.not_supported
error_of error.Aborted = model.aborted
error_of error.NotOwner = model.not_owner
error_of error.ReferentialIntegrityViolation = model.referential_integrity_violation
