-- What one more line, or no more, says of the head.
use Rattle.std.proofs.Common.{◌≡◌, sym, ◌∙◌, refl, subst, length, arith}
use Rattle.cds_http.specs.Scan.{IsScanned}
use Rattle.cds_http.proofs.ScanLemmas.{scanned_passes, found_crowded, found_end, found_front, found_open}
use Rattle.cds_http.proofs.lines.look_on.Goals as goal

pub returns-in-Crowds : goal.returns-in-Crowds
returns-in-Crowds c =
    found_crowded c.args.bytes.now c.loop-at.line c.loop-at.at c.loop-at.count c.loop-at.invariant c.loop-at-test.true c.if-bytes-at-ne10.false
    (sym c.step_of.ensures ∙ c.in-Crowds.is)

pub returns-in-Ends : goal.returns-in-Ends
returns-in-Ends c =
    let ends = sym c.step_of.ensures ∙ c.in-Ends.is in (
      omega arith,
      found_end c.args.bytes.now c.loop-at.line c.loop-at.at c.loop-at.count c.loop-at.invariant c.loop-at-test.true c.if-bytes-at-ne10.false ends,
      found_front c.args.bytes.now c.loop-at.line c.loop-at.at c.loop-at.count c.loop-at.invariant c.loop-at-test.true c.if-bytes-at-ne10.false ends,
    )

pub loop-at-preserved : goal.loop-at-preserved
loop-at-preserved c =
    scanned_passes c.args.bytes.now c.loop-at.line c.loop-at.at c.loop-at.count c.loop-at.invariant c.loop-at-test.true c.if-bytes-at-ne10.false
    c.in-Passed.next (omega arith) (sym c.step_of.ensures ∙ c.in-Passed.is)

pub returns : goal.returns
returns c =
    let all : c.loop-at.at ≡ length c.args.bytes.now = omega (arith, c.loop-at.invariant.in_range) in
    let known = subst (λ n. IsScanned c.args.bytes.now (record { line = c.loop-at.line; looked = n; count = c.loop-at.count })) all c.loop-at.invariant in
    (known, refl, found_open c.args.bytes.now c.loop-at.line c.loop-at.count known)
