use Rattle.std.proofs.Common.{◌%◌, inl, inr, ⊎_elim, ◌∙◌, arith}
use Rattle.cds_frac.proofs.Ratios.{nat_cmp-whole, nat_cmp-rest, nat_cmp-zero, nat_cmp-turned}
use Rattle.cds_frac.proofs.compare.compare_ratios.Goals as goal

pub returns-then-left-right : goal.returns-then-left-right
returns-then-left-right c =
    c.cmp.ensures ∙ nat_cmp-whole c.loop-left.a c.loop-left.b c.loop-left.c c.loop-left.d c.loop-left.invariant.first c.loop-left.invariant.second c.if-left-right.true ∙ c.loop-left.invariant.same

pub returns-then-left_rest-eq0 : goal.returns-then-left_rest-eq0
returns-then-left_rest-eq0 c =
    let l = c.loop-left in
    c.cmp-then-left_rest-eq0.ensures ∙ nat_cmp-zero (l.a % l.b) (l.c % l.d) l.b l.d l.invariant.first l.invariant.second (⊎_elim inl (λ w. inr w.1) c.then-left_rest-eq0.either) ∙ nat_cmp-rest l.a l.b l.c l.d c.if-left-right.false ∙ l.invariant.same

pub loop-left-preserved : goal.loop-left-preserved
loop-left-preserved c =
    let l = c.loop-left in
    record {
      first = omega arith;
      second = omega arith;
      same = nat_cmp-turned l.a l.b l.c l.d c.if-left-right.false ∙ l.invariant.same;
    }
