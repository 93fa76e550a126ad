-- How the refusals of the fields of a body are told: all alike, by the path of the field.
use Rattle.cds_fields.specs.Refusals.{Refusals}
use Rattle.cds_wire.specs.declared.error.BodyError.{BodyError}
use Rattle.cds_wire.specs.declared.error.BodyError.TheVariants.{Field, NoMemory}

-- one refusal for a missing, a wrong and an unknown field and for a list of a wrong length
abbrev pub body_refusals : Refusals BodyError
body_refusals = record { missing = Field; range = Field; unknown = Field; too_many = Field; wanting = NoMemory }
