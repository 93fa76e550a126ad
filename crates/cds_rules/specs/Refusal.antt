-- The numbers by which the refusals of a method are told, and what is shown of them.
use Rattle.std.specs.Prelude.{ℕ, List, [], Option, Some, None}
use Rattle.cds_fields.specs.Refusals.{Refusals}
use Rattle.cds_rules.specs.declared.error.MethodError.{MethodError}
use Rattle.cds_rules.specs.declared.error.MethodError.TheVariants.{NotToml, Missing, Unknown, Range, TwoComponents, TooMany, TooLong, NoMemory}

-- the number of a refusal; want of memory is none
abbrev pub number_of_refusal : MethodError → Option ℕ
number_of_refusal NotToml = Some 1
number_of_refusal (Missing field) = Some 2
number_of_refusal (Unknown field) = Some 3
number_of_refusal (Range field) = Some 4
number_of_refusal (TwoComponents name) = Some 5
number_of_refusal (TooMany field) = Some 6
number_of_refusal TooLong = Some 7
number_of_refusal NoMemory = None

-- the path of the field, or the name, at fault; nothing where the refusal has none
abbrev pub field_of_refusal : MethodError → List ℕ
field_of_refusal NotToml = []
field_of_refusal (Missing field) = field
field_of_refusal (Unknown field) = field
field_of_refusal (Range field) = field
field_of_refusal (TwoComponents name) = name
field_of_refusal (TooMany field) = field
field_of_refusal TooLong = []
field_of_refusal NoMemory = []

-- how the refusals of the fields of a method's text are told
abbrev pub method_refusals : Refusals MethodError
method_refusals = record { missing = Missing; range = Range; unknown = Unknown; too_many = TooMany; wanting = NoMemory }
