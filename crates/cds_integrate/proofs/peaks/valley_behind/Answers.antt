use Rattle.std.proofs.Common.{◌∙◌, sym}
use Rattle.cds_rules.specs.Fields.{fields_of}
use Rattle.cds_integrate.proofs.PeakLaws.{valley-high}
use Rattle.cds_integrate.proofs.peaks.valley_behind.Goals as goal

pub returns-then-is_valley_between-clause-boundary : goal.returns-then-is_valley_between-clause-boundary
returns-then-is_valley_between-clause-boundary g c =
    let is = sym c.is_valley_between.ensures ∙ c.if-is_valley_between.true in (
      c.boundary-boundary.ensures.small,
      rw c.boundary-boundary.ensures.num
          (valley-high c.args.trace.now (fields_of c.args.method.now) c.args.before c.args.part is),
    )
