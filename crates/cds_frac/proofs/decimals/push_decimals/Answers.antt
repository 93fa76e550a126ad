use Rattle.std.proofs.Common.{◌≡◌, ◌+◌, ◌*◌, ◌/◌, ◌%◌, ◌^◌, ◌<◌, ◌∷◌, [], string_bytes, encode_utf8, ap, ◌∙◌, arith}
use Rattle.cds_frac.proofs.DecimalSteps.{next_digit, next_rest, written_more}
use Rattle.cds_frac.proofs.decimals.push_decimals.Goals as goal

pub loop-preserved : goal.loop-preserved
loop-preserved c =
    let rest = c.args.rest in
    let den = c.args.den in
    let i = c.loop.counter in
    let some : 0 < den = omega arith in
    let digit : c.next_decimal-digit.result.0 ≡ rest * 10 ^ (i + 1) / den % 10 = c.next_decimal-digit.ensures.digit ∙ ap (λ l. l * 10 / den) c.loop.invariant.behind ∙ next_digit rest den i some in
    let behind : c.next_decimal-digit.result.1 ≡ rest * 10 ^ (i + 1) % den = c.next_decimal-digit.ensures.left ∙ ap (λ l. l * 10 % den) c.loop.invariant.behind ∙ next_rest rest den i in
    let one : encode_utf8 c.from.result ≡ c.from.result ∷ [] = c.in_ok-push.ensures.ascii (omega arith) in
    record {
      written = written_more (string_bytes c.push.new.self) (string_bytes c.loop.text) (string_bytes c.args.text.now) (encode_utf8 c.from.result) c.from.result rest den i c.in_ok-push.ensures.bytes one (c.from.ensures ∙ ap (λ n. 48 + n) digit) c.loop.invariant.written;
      behind = behind;
    }
