-- The numbers by which the refusals of a command are told. This project's own.
use Rattle.std.specs.Prelude.{ℕ, Option, Some, None}
use Rattle.cds_book.specs.declared.error.PlanError.{PlanError}
use Rattle.cds_book.specs.declared.error.PlanError.TheVariants.{NoTrace, NoMethod, NoVersion, NoSequence, NoRow, NoRecord, Edition, Basis, Number, Full, TwoLabels, BadAmount, NoMemory}

-- the number of a refusal; want of memory is none
abbrev pub number_of_refusal : PlanError → Option ℕ
number_of_refusal (NoTrace name) = Some 1
number_of_refusal (NoMethod name) = Some 2
number_of_refusal (NoVersion name) = Some 3
number_of_refusal (NoSequence name) = Some 4
number_of_refusal (NoRow row) = Some 5
number_of_refusal (NoRecord number) = Some 6
number_of_refusal (Edition kept) = Some 7
number_of_refusal (Basis kept) = Some 8
number_of_refusal (Number next) = Some 9
number_of_refusal (Full limit) = Some 10
number_of_refusal (TwoLabels label) = Some 11
number_of_refusal (BadAmount row) = Some 12
number_of_refusal NoMemory = None
