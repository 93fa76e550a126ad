use Rattle.std.proofs.Common.{◌-◌, ◌*◌, ◌≤◌, length, arith, rules}
use Rattle.std.proofs.lemmas.Int.{to_z-of_z}
use Rattle.std.proofs.Math.Nat.{mul-le-mul_right}
use mir.Syntax.{w64}
use mir.Val.{SFits}
use Rattle.cds_figures.proofs.TimeLaws.{vertex-inside}
use Rattle.cds_figures.proofs.times.peak_time.Given
use Rattle.cds_figures.proofs.times.peak_time.Goals as goal

pub moved-requires-clause-late : goal.moved-requires-clause-late
moved-requires-clause-late g c =
    let fits : SFits w64 c.vertex_offset.result = search rules in
    let inside = vertex-inside c.args.start c.args.apex c.args.end c.args.trace.now.period c.vertex_offset.result (grind arith) (grind arith) c.vertex_offset.ensures.small in
    rw (c.from.ensures, c.period.ensures.value) (simp to_z-of_z inside.late)

-- the time at the vertex lies in the range
between : (g : Given.Over) (c : goal.After-moved g) → (c.args.start * c.args.trace.now.period ≤ c.moved.result) × (c.moved.result ≤ c.args.end * c.args.trace.now.period)
between g c =
    let fits : SFits w64 c.vertex_offset.result = search rules in
    let inside = vertex-inside c.args.start c.args.apex c.args.end c.args.trace.now.period c.vertex_offset.result (grind arith) (grind arith) c.vertex_offset.ensures.small in
    let told = rw (c.from.ensures, c.period.ensures.value) at (simp to_z-of_z at c.moved.ensures) in
    rw told (inside.behind, inside.before)

pub returns-then-is_at_vertex-clause-behind : goal.returns-then-is_at_vertex-clause-behind
returns-then-is_at_vertex-clause-behind g c = (between g c).0

pub returns-then-is_at_vertex-clause-before : goal.returns-then-is_at_vertex-clause-before
returns-then-is_at_vertex-clause-before g c = (between g c).1

pub returns-then-is_at_vertex-clause-inside : goal.returns-then-is_at_vertex-clause-inside
returns-then-is_at_vertex-clause-inside g c =
    let last : c.args.end ≤ length c.args.trace.now.samples - 1 = omega arith in
    omega (arith, (between g c).1, mul-le-mul_right c.args.trace.now.period last)
