use Rattle.std.proofs.Common.{◌≡◌, ap, ◌∙◌, rules, SFits, unsigned_abs, string_bytes}
use Rattle.std.specs.Int.{w128}
use Rattle.std.proofs.lemmas.Int.{to_z-of_z}
use Rattle.cds_frac.proofs.DecimalSteps.{decimal_text-is}
use Rattle.cds_frac.proofs.fraction.Frac.digits.Goals as goal

pub returns : goal.returns
returns c =
    let fits : SFits w128 c.self.inside.num = search rules in
    let number = to_z-of_z w128 c.self.inside.num fits in
    let size : c.unsigned_abs-size.result ≡ unsigned_abs c.self.inside.num = c.unsigned_abs-size.ensures.value ∙ ap unsigned_abs number in
    rw (← c.self.view_is) (c.from_string.ensures ∙ decimal_text-is (record { num = c.self.inside.num; den = c.self.inside.den }) _ c.unsigned_abs-size.result c.args.k (string_bytes c.push_fraction.new.text) (string_bytes c.in_ok-text.text) c.sign_before-sign.result.now c.self.invariant.reduced.0 number size c.sign_before-sign.ensures c.in_ok-text.ensures.ok c.in_ok-push_fraction.ensures)
