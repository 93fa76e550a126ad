-- A height in lowest terms gives the figures that the height gives.
use Rattle.std.proofs.Common.{◌≡◌, ◌∙◌, ℕ, zero, suc, ◌*◌, ◌<◌, ℤ, pos, ◌*ℤ◌, unsigned_abs, sym, ap, subst, arith}
use Rattle.std.proofs.Common.{mul_comm, mul_assoc, mul_left_comm, mul-pos}
use Rattle.std.proofs.Math.IntN.{*ℤ_comm}
use Rattle.std.proofs.lemmas.Int.{unsigned_abs-mul}
use Rattle.cds_base.specs.declared.peak.Ratio.{Ratio}
use Rattle.cds_frac.specs.FractionLaws.{times-times}
use Rattle.cds_frac.proofs.LowestTerms.{lowest_terms-cross, lowest_terms-same, IsReduced-lowest_terms}
use Rattle.cds_figures.specs.Figures.{signal_noise_of, peak_valley_of}
use Rattle.cds_integrate.specs.Seen.{ratio_seen}
use Rattle.cds_graph.specs.Figures.{over_noise, over_boundary}

-- a number times a multiple is the multiple of the product
multiple : (k : ℕ) (z : ℤ) (m n : ℕ) → (pos k *ℤ z) *ℤ pos (m * n) ≡ (z *ℤ pos m) *ℤ pos (k * n)
multiple k z m n =
    ap (λ x. x *ℤ pos (m * n)) (*ℤ_comm (pos k) z) ∙ times-times z k (m * n)
    ∙ ap (λ x. z *ℤ pos x) (mul_left_comm k m n) ∙ sym (times-times z m (k * n))

-- twice the height over the noise
pub over_noise-is : (height : Ratio) (noise : ℕ) → 0 < noise →
    over_noise (ratio_seen height) noise ≡ signal_noise_of height noise
over_noise-is height noise some =
    let f = ratio_seen height in
    let den : 0 < height.den = omega (arith, height.positive) in
    let f_den : 0 < f.den = (IsReduced-lowest_terms height.num height.den den).0 in
    lowest_terms-same (pos 2 *ℤ f.num) (pos 2 *ℤ height.num) (f.den * noise) (height.den * noise)
    (mul-pos f_den some) (mul-pos den some)
    (multiple 2 f.num height.den noise
    ∙ ap (λ z. z *ℤ pos (2 * noise)) (lowest_terms-cross height.num height.den den)
    ∙ sym (multiple 2 height.num f.den noise))

-- a quotient of heights is that of their numbers
quotient : (p q : ℤ) (d e f g n m : ℕ) → p *ℤ pos d ≡ q *ℤ pos e → m * f ≡ n * g →
    (p *ℤ pos g) *ℤ pos (n * d) ≡ (q *ℤ pos f) *ℤ pos (m * e)
quotient p q d e f g n m first second =
    times-times p g (n * d)
    ∙ ap (λ x. p *ℤ pos x) (sym (mul_assoc g n d) ∙ mul_comm (g * n) d ∙ ap (λ x. d * x) (mul_comm g n ∙ sym second))
    ∙ sym (times-times p d (m * f)) ∙ ap (λ z. z *ℤ pos (m * f)) first ∙ times-times q e (m * f)
    ∙ ap (λ x. q *ℤ pos x) (sym (mul_assoc e m f) ∙ mul_comm (e * m) f ∙ ap (λ x. f * x) (mul_comm e m))
    ∙ sym (times-times q f (m * e))

-- a factor of a number above 0 is above 0
positive-left : (n m : ℕ) → 0 < n * m → 0 < n
positive-left zero m some = absurd (omega arith)
positive-left (suc n) m some = omega arith

-- a height over that of a boundary
pub over_boundary-is : (height boundary : Ratio) → 0 < unsigned_abs boundary.num →
    over_boundary (ratio_seen height) (ratio_seen boundary) ≡ peak_valley_of height boundary
over_boundary-is height boundary some =
    let f = ratio_seen height in
    let g = ratio_seen boundary in
    let den : 0 < height.den = omega (arith, height.positive) in
    let low : 0 < boundary.den = omega (arith, boundary.positive) in
    let f_den : 0 < f.den = (IsReduced-lowest_terms height.num height.den den).0 in
    let g_den : 0 < g.den = (IsReduced-lowest_terms boundary.num boundary.den low).0 in
    let sizes : unsigned_abs g.num * boundary.den ≡ unsigned_abs boundary.num * g.den =
    sym (unsigned_abs-mul g.num (pos boundary.den))
    ∙ ap unsigned_abs (lowest_terms-cross boundary.num boundary.den low)
    ∙ unsigned_abs-mul boundary.num (pos g.den) in
    let g_some : 0 < unsigned_abs g.num =
    positive-left (unsigned_abs g.num) boundary.den (subst (λ n. 0 < n) (sym sizes) (mul-pos some g_den)) in
    lowest_terms-same (f.num *ℤ pos g.den) (height.num *ℤ pos boundary.den) (unsigned_abs g.num * f.den)
    (unsigned_abs boundary.num * height.den) (mul-pos g_some f_den) (mul-pos some den)
    (quotient f.num height.num height.den f.den boundary.den g.den (unsigned_abs boundary.num) (unsigned_abs g.num)
    (lowest_terms-cross height.num height.den den) sizes)
