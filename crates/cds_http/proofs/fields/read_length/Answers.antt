-- One more digit of a length.
use Rattle.std.proofs.Common.{◌≡◌, ◌∙◌, sym, true, ◌≤◌, length, take, get_or, arith, length-take}
use Rattle.std.specs.Char.{is_ascii_digit}
use Rattle.std.proofs.lemmas.Int.Digits.{digits_value_more}
use Rattle.http1.proofs.TextLemmas.{list_all_more}
use Rattle.cds_http.proofs.FieldLemmas.{digits_value_below, value_of_digit}
use Rattle.cds_http.proofs.fields.read_length.Goals as goal

pub overflow_mul-length : goal.overflow_mul-length
overflow_mul-length c =
    let few : length (take c.loop-digit.digit-index c.args.value.now) ≤ 18 = omega (arith, length-take c.loop-digit.digit-index c.args.value.now) in
    omega (arith, c.loop-digit.invariant.number, digits_value_below (take c.loop-digit.digit-index c.args.value.now) c.loop-digit.invariant.digits few)

is_digit : (c : goal.After-from) → is_ascii_digit (get_or c.args.value.now c.loop-digit.digit-index 0) ≡ true
is_digit c = sym c.is_ascii_digit.ensures.value ∙ c.if-not-is_ascii_digit.false

pub overflow_add-length : goal.overflow_add-length
overflow_add-length c =
    let few : length (take c.loop-digit.digit-index c.args.value.now) ≤ 18 = omega (arith, length-take c.loop-digit.digit-index c.args.value.now) in
    omega (arith, c.loop-digit.invariant.number, digits_value_below (take c.loop-digit.digit-index c.args.value.now) c.loop-digit.invariant.digits few, value_of_digit (get_or c.args.value.now c.loop-digit.digit-index 0) (is_digit c))

pub loop-digit-preserved : goal.loop-digit-preserved
loop-digit-preserved c = record {
  digits = list_all_more is_ascii_digit c.args.value.now c.loop-digit.digit-index 0 c.loop-digit-test.true c.loop-digit.invariant.digits (is_digit c);
  number = omega (arith, c.loop-digit.invariant.number, digits_value_more 10 c.args.value.now c.loop-digit.digit-index c.loop-digit-test.true, value_of_digit (get_or c.args.value.now c.loop-digit.digit-index 0) (is_digit c));
}
