use Rattle.std.proofs.Common.{sym, ◌∙◌, rules, arith}
use Rattle.std.proofs.lemmas.Int.{to_z-of_z}
use mir.Syntax.{w32}
use mir.Val.{SFits}
use Rattle.cds_figures.specs.Noise.{samples_in}
use Rattle.cds_figures.proofs.SampleLaws.{samples-more, samples-skip}
use Rattle.cds_figures.proofs.blank.extent_in.Goals as goal
use Rattle.cds_figures.proofs.blank.extent_in.Goals.{then-is_in_window, else-is_in_window}

pub loop-i-preserved : goal.loop-i-preserved
loop-i-preserved g c =
    let signal = c.args.trace.now in
    let test = rw (c.from.ensures, c.period-period.ensures.value) at c.is_in_window.ensures in
    elim c.if-is_in_window.branch [
      | then-is_in_window w ↦
          let more = samples-more signal c.args.from_ms c.args.to_ms c.loop-i.i (sym test ∙ w.if-is_in_window.true) in
          let fits : SFits w32 w.at.result = search rules in
          let wide = rw w.at.ensures.value at (simp to_z-of_z at (w.widened.ensures (samples_in signal c.args.from_ms c.args.to_ms c.loop-i.i) c.loop-i.invariant.extent)) in
          record {
            extent = rw (w.extent-is, more) wide;
            least = rw w.steps-is (omega (arith, w.at.ensures.counted));
            counted = rw w.steps-is (omega (arith, w.at.ensures.counted));
          }
      | else-is_in_window w ↦
          let more = samples-skip signal c.args.from_ms c.args.to_ms c.loop-i.i (sym test ∙ w.if-is_in_window.false) in
          record {
            extent = rw (w.extent-is, more) c.loop-i.invariant.extent;
            least = rw w.steps-is (omega arith);
            counted = rw w.steps-is (omega arith);
          }
    ]
