use Rattle.std.proofs.Common.{◌≡◌, true, take}
use Rattle.std.specs.List.{list_all}
use Rattle.std.specs.Char.{is_ascii_digit}
use Rattle.std.specs.Str.Parse.{digits_value}
use Rattle.cds_http.proofs.fields.read_length.Given as goal

-- the bytes so far are digits, and the number is theirs
abbrev pub invariant-loop-digit : goal.invariant-loop-digit
invariant-loop-digit l = record {
  digits : list_all is_ascii_digit (take l.digit-index l.value) ≡ true;
  number : l.length ≡ digits_value 10 (take l.digit-index l.value);
}
