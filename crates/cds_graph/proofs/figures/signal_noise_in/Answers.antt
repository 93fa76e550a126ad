use Rattle.std.proofs.Common.{◌≡◌, ◌∙◌, ◌<◌, Ok, sym, ap, rules}
use Rattle.cds_frac.specs.Fraction.{Fraction}
use Rattle.cds_graph.proofs.FigureLaws.{over_noise-is}
use Rattle.cds_graph.proofs.figures.signal_noise_in.Goals as goal

pub returns : goal.returns
returns c =
    let is : c.args.noise ≡ Ok c.in_ok-range.range = search rules in
    let some : 0 < c.in_ok-range.range = rw is at c.requires.noise in
    rw is (ap (λ (f : Fraction). Ok f)
    (c.signal_noise.ensures ∙ sym (over_noise-is c.args.peak.now.height c.in_ok-range.range some)))
