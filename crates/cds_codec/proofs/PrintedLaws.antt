-- What the name or the meaning of a signature may be is a text.
use Rattle.std.proofs.Common.{◌≡◌, ℕ, true, Bool, false, List, get_or, length, inl, inr, arith}
use Rattle.std.specs.Prelude.{◌&&◌}
use Rattle.std.specs.List.{list_all}
use Rattle.std.specs.Str.{IsAscii, IsUtf8}
use Rattle.std.proofs.lemmas.Bool.{cases_lt}
use Rattle.std.proofs.lemmas.Bool.Decides.{nat_tests}
use Rattle.std.proofs.lemmas.List.{get_or_past}
use Rattle.std.proofs.lemmas.List.Sums.{AllPass-from_list_all}
use Rattle.std.proofs.lemmas.Str.{IsUtf8-from_ascii}
use Rattle.cds_sign.specs.Printed.{is_printed, is_printed_byte}

-- the second of two tests that passed
second : (a b : Bool) → (a && b) ≡ true → b ≡ true
second true b h = h
second false b h = absurd cc

-- it has ASCII characters alone
printed-ascii : (text : List ℕ) → is_printed text ≡ true → IsAscii text
printed-ascii text h i = elim (cases_lt i (length text)) [
  | inl within ↦
      let all : list_all is_printed_byte text ≡ true = second _ _ h in
      let each : is_printed_byte (get_or text i 0) ≡ true = AllPass-from_list_all is_printed_byte text all i 0 within in
      grind (arith, nat_tests, each)
  | inr past ↦ rw (get_or_past text i 0 past) (omega arith)
]

pub printed-utf8 : (text : List ℕ) → is_printed text ≡ true → IsUtf8 text
printed-utf8 text h = IsUtf8-from_ascii text (printed-ascii text h)
