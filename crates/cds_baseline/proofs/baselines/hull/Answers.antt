use Rattle.std.proofs.Common.{◌≡◌, ◌∙◌, ℕ, ◌+◌, ◌-◌, ◌<◌, ℤ, Bool, List, length, map}
use Rattle.cds_trace.specs.Signal.{sample_at}
use Rattle.cds_baseline.specs.Nodes.{sample_of, is_fixed}
use Rattle.cds_baseline.specs.Chain.{level_of, vertex, IsChain}
use Rattle.cds_baseline.proofs.NodeLaws.{hull-nodes, chain-inside}
use Rattle.cds_baseline.proofs.baselines.hull.Goals as goal

pub samples_of-requires : goal.samples_of-requires
samples_of-requires g c =
    let x : ℕ → ℕ = sample_of c.args.points.now in
    let y : ℕ → ℤ = level_of c.as_slice.result.now in
    let f : ℕ → Bool = is_fixed c.args.fixed.now in
    let numbers : List ℕ = c.as_slice-2.result.now in
    let chain : IsChain x y f (vertex numbers) (length numbers) = rw (c.as_slice-2.ensures.len, c.as_slice-2.ensures.value) c.in_ok-chain.ensures.chain in
    chain-inside x y f (length c.args.points.now) numbers chain
    (λ some. rw (c.as_slice-2.ensures.len, c.as_slice-2.ensures.value) (c.in_ok-chain.ensures.whole c.requires.some).1)

pub returns-clause-nodes : goal.returns-clause-nodes
returns-clause-nodes g c =
    let x : ℕ → ℕ = sample_of c.args.points.now in
    let y : ℕ → ℤ = level_of c.as_slice.result.now in
    let f : ℕ → Bool = is_fixed c.args.fixed.now in
    let numbers : List ℕ = c.as_slice-2.result.now in
    let chain : IsChain x y f (vertex numbers) (length numbers) = rw (c.as_slice-2.ensures.len, c.as_slice-2.ensures.value) c.in_ok-chain.ensures.chain in
    let some : 0 < length numbers = rw c.as_slice-2.ensures.len (c.in_ok-chain.ensures.whole c.requires.some).0 in
    let end : vertex numbers (length numbers - 1) + 1 ≡ length c.args.points.now =
    rw (c.as_slice-2.ensures.len, c.as_slice-2.ensures.value) (c.in_ok-chain.ensures.whole c.requires.some).1 in
    let read : c.as_slice.result.now ≡ map (λ p. sample_at c.args.trace.now p) c.args.points.now = c.as_slice.ensures.value ∙ c.in_ok-levels.ensures.levels in
    c.from_vec.ensures ∙ c.in_ok-samples.ensures ∙ hull-nodes c.args.trace.now c.args.points.now c.as_slice.result.now c.args.fixed.now numbers read c.requires.rising chain some end c.requires.first c.requires.last
