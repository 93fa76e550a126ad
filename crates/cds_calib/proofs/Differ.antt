-- Two amounts differ exactly where the corrected sum of their squares is above 0.
use Rattle.std.proofs.Common.{◌≡◌, ℕ, ◌+◌, ◌*◌, ◌<◌, ◌≤◌, Bool, true, false, not, ◌||◌, eqb, ltb, List, [], ◌∷◌, refl, sym, ap, subst, arith, mul-pos}
use Rattle.std.specs.List.{list_any}
use Rattle.std.proofs.lemmas.List.Sums.{sum_by-cons}
use Rattle.std.proofs.lemmas.Bool.{eqb-true, eqb-false, lt-ltb, le-ltb, false≢true}
use Rattle.cds_calib.specs.declared.point.Point.{Point}
use Rattle.cds_calib.specs.Line.{differ, corrected_xx}
use Rattle.cds_calib.proofs.Squares.{gap}
use Rattle.cds_calib.proofs.Spread.{gaps, corrected, corrected-cons}

-- an amount other than x
abbrev pub other_than : ℕ → Point → Bool
other_than x q = not (eqb q.amount x)

not_first : (b c : Bool) → (not b || c) ≡ false → b ≡ true
not_first true c h = refl
not_first false c h = absurd (false≢true (sym h))

not_second : (b c : Bool) → (not b || c) ≡ false → c ≡ false
not_second true c h = h
not_second false c h = absurd (false≢true (sym h))

-- where no amount is another, all differences are 0
pub no_gap : (x : ℕ) (points : List Point) → list_any (other_than x) points ≡ false → gaps (λ p. p.amount) x points ≡ 0
no_gap x [] none = refl
no_gap x (p ∷ points) none =
    let same : p.amount ≡ x = eqb-true p.amount x (not_first (eqb p.amount x) (list_any (other_than x) points) none) in
    let rest : gaps (λ p. p.amount) x points ≡ 0 = no_gap x points (not_second (eqb p.amount x) (list_any (other_than x) points) none) in
    let near : gap x p.amount ≡ 0 = omega arith in
    let here : gap x p.amount * gap x p.amount ≡ 0 = ap (λ h. h * h) near in
    rw (sum_by-cons (λ q. gap x q.amount * gap x q.amount) p points) (omega arith)

gap_some : (x u : ℕ) → eqb u x ≡ false → 0 < gap x u * gap x u
gap_some x u apart =
    let distinct : u ≡ x → ⊥ = eqb-false u x apart in
    let some : 0 < gap x u = omega arith in
    mul-pos some some

-- where an amount is another, a difference is above 0
pub some_gap : (x : ℕ) (points : List Point) → list_any (other_than x) points ≡ true → 0 < gaps (λ p. p.amount) x points
some_gap x [] some = absurd (false≢true some)
some_gap x (p ∷ points) some =
    rw (sum_by-cons (λ q. gap x q.amount * gap x q.amount) p points)
    (go (eqb p.amount x) refl some (λ h. some_gap x points h))
  where
    go : (b : Bool) → eqb p.amount x ≡ b → (not b || list_any (other_than x) points) ≡ true → (list_any (other_than x) points ≡ true → 0 < gaps (λ q. q.amount) x points) → 0 < gap x p.amount * gap x p.amount + gaps (λ q. q.amount) x points
    go true is h others = let rest = others h in omega (arith, rest)
    go false is h others = let here = gap_some x p.amount is in omega (arith, here)

-- amounts that are all one have no spread
pub no_spread : (x : ℕ) (points : List Point) → list_any (other_than x) points ≡ false → corrected (λ p. p.amount) points ≡ 0
no_spread x [] none = refl
no_spread x (p ∷ points) none =
    let same : p.amount ≡ x = eqb-true p.amount x (not_first (eqb p.amount x) (list_any (other_than x) points) none) in
    let others : list_any (other_than x) points ≡ false = not_second (eqb p.amount x) (list_any (other_than x) points) none in
    let rest : corrected (λ q. q.amount) points ≡ 0 = no_spread x points others in
    let near : gaps (λ q. q.amount) p.amount points ≡ 0 = no_gap p.amount points (subst (λ u. list_any (other_than u) points ≡ false) (sym same) others) in
    rw (corrected-cons (λ q. q.amount) p points) (omega arith)

-- two amounts differ exactly where n Sxx - Sx^2 is above 0
pub differ-is : (points : List Point) → differ points ≡ ltb 0 (corrected_xx points)
differ-is [] = refl
differ-is (p ∷ points) = go (list_any (other_than p.amount) points) refl
  where
    go : (b : Bool) → list_any (other_than p.amount) points ≡ b → b ≡ ltb 0 (corrected_xx (p ∷ points))
    go true is =
        let here = some_gap p.amount points is in
        let grown : corrected (λ q. q.amount) (p ∷ points) ≡ corrected (λ q. q.amount) points + gaps (λ q. q.amount) p.amount points = corrected-cons (λ q. q.amount) p points in
        let some : 0 < corrected (λ q. q.amount) (p ∷ points) = omega (arith, here, grown) in
        sym (lt-ltb 0 _ some)
    go false is =
        let rest : corrected (λ q. q.amount) points ≡ 0 = no_spread p.amount points is in
        let near : gaps (λ q. q.amount) p.amount points ≡ 0 = no_gap p.amount points is in
        let grown : corrected (λ q. q.amount) (p ∷ points) ≡ corrected (λ q. q.amount) points + gaps (λ q. q.amount) p.amount points = corrected-cons (λ q. q.amount) p points in
        let none : corrected (λ q. q.amount) (p ∷ points) ≤ 0 = omega (arith, grown) in
        sym (le-ltb 0 _ none)
