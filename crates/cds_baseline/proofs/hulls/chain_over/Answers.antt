use Rattle.std.proofs.Common.{◌≡◌, ℕ, ◌+◌, ◌<◌, ◌≤◌, ℤ, Bool, false, List, [], ◌∷◌, ◌++◌, take, vec_len, arith}
use Rattle.cds_baseline.specs.Nodes.{sample_of, is_fixed}
use Rattle.cds_baseline.specs.Chain.{level_of, vertex, IsReached, is_top_hidden}
use Rattle.cds_baseline.proofs.HullLaws.{reached-next, chain_over-next}
use Rattle.cds_baseline.proofs.hulls.chain_over.Goals as goal

pub kept-count-requires-clause-chain : goal.kept-count-requires-clause-chain
kept-count-requires-clause-chain c = rw (c.as_slice.ensures.len, c.as_slice.ensures.value) c.loop-next.invariant.chain

pub kept-count-requires-clause-reached : goal.kept-count-requires-clause-reached
kept-count-requires-clause-reached c =
    rw (c.as_slice.ensures.len, c.as_slice.ensures.value)
    (reached-next (sample_of c.args.points.now) (level_of c.args.levels.now) (is_fixed c.args.fixed.now) (vertex c.loop-next.chain.items) (vec_len c.loop-next.chain)
    c.loop-next.next c.loop-next.invariant.chain c.loop-next.invariant.last)

pub loop-next-preserved : goal.loop-next-preserved
loop-next-preserved c =
    let x : ℕ → ℕ = sample_of c.args.points.now in
    let y : ℕ → ℤ = level_of c.args.levels.now in
    let f : ℕ → Bool = is_fixed c.args.fixed.now in
    let h = c.loop-next.invariant in
    let old : List ℕ = c.loop-next.chain.items in
    let k = c.loop-next.next in
    let count = c.kept-count.result in
    let few : count ≤ vec_len c.loop-next.chain = rw c.as_slice.ensures.len at c.kept-count.ensures.few in
    let some : 0 < vec_len c.loop-next.chain → 0 < count = rw c.as_slice.ensures.len at c.kept-count.ensures.some in
    let reached : IsReached x y f (vertex old) count k = rw c.as_slice.ensures.value at c.kept-count.ensures.reached in
    let bends : is_top_hidden x y f (vertex old) count k ≡ false = rw c.as_slice.ensures.value at c.kept-count.ensures.bends in
    let items : c.push.new.self.items ≡ take count old ++ k ∷ [] = rw c.truncate.ensures.items at c.in_ok-push.ensures.items in
    let len : vec_len c.push.new.self ≡ count + 1 = omega (arith, c.in_ok-push.ensures.len, c.truncate.ensures.len) in
    rw (items, len) (chain_over-next x y f old (vec_len c.loop-next.chain) count k h few some reached bends)
