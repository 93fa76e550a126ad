use Rattle.std.proofs.Common.{◌∙◌}
use Rattle.cds_calib.proofs.Dilution.{amount_answer}
use Rattle.cds_calib.proofs.amounts.amount.Goals as goal

pub returns : goal.returns
returns c =
    c.ok_or.ensures.value
    ∙ amount_answer c.args.fit.now c.args.area c.args.u c.args.v c.in-Some.undiluted c.times.result c.undiluted.ensures.shape.slope_some c.requires.dilution c.in-Some.ensures.number.0 c.in-Some.ensures.number.1 c.times.ensures
