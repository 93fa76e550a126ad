use Rattle.std.proofs.Common.{◌≡◌, eqb, false, ap, arith}
use Rattle.std.proofs.lemmas.Bool.Decides.{nat_tests}
use Rattle.http1.specs.Fields.{known_fields}
use Rattle.http1.specs.declared.fields.KnownFields.{KnownFields}
use Rattle.cds_http.proofs.fields.closes.Goals as goal

pub returns-else-minor-eq0 : goal.returns-else-minor-eq0
unfolding known_fields
returns-else-minor-eq0 c =
    let other : eqb c.args.minor 0 ≡ false = grind (arith, nat_tests, c.if-minor-eq0.false) in
    rw other (ap (λ (k : KnownFields). k.close) c.from_spans.ensures)
