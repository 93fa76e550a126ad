-- That the kept sums follow the list, and stay small.
use Rattle.std.proofs.Common.{◌≡◌, ℕ, suc, ◌+◌, ◌*◌, ◌<◌, ◌≤◌, List, length, get_or, sym, ap, ◌∙◌, subst, arith}
use Rattle.std.specs.List.{All, sum_by, insert, remove}
use Rattle.std.proofs.Math.Nat.{mul-le-mul}
use Rattle.std.proofs.lemmas.List.Sums.{sum_by-le, sum_by-insert, sum_by-remove}
use Rattle.std.proofs.lemmas.List.Elements.{All-weaker, All-append, All-cons, All-take, All-drop}
use Rattle.std.proofs.lemmas.List.Edits.{length-insert, length-remove}
use Rattle.cds_calib.specs.declared.point.Point.{Point}
use Rattle.cds_calib.specs.declared.sums.Sums.{Sums}
use Rattle.cds_calib.specs.Points.{IsPoint, IsCalibration}
use Rattle.cds_calib.specs.Sums.{with_point, sums_of, IsSmall, IsKept}

-- a sum over the points of a calibration is at most 64 times a bound of its terms
pub sum_by-few : (f : Point → ℕ) (m : ℕ) (points : List Point) → IsCalibration points → ((p : Point) → IsPoint p → f p ≤ m) → sum_by f points ≤ 64 * m
sum_by-few f m points is bound =
    let terms : sum_by f points ≤ length points * m = sum_by-le f m points (All-weaker IsPoint (λ p. f p ≤ m) bound points is.within) in
    let few : length points * m ≤ 64 * m = mul-le-mul {n₁ = length points} {m₁ = m} {n₂ = 64} {m₂ = m} is.few (omega arith) in
    omega arith

-- a product of two bounded numbers
product-le : (a b m n : ℕ) → a ≤ m → b ≤ n → a * b ≤ m * n
product-le a b m n p q = mul-le-mul {n₁ = a} {m₁ = b} {n₂ = m} {m₂ = n} p q

-- the sums of at most 64 points within the limits are small
pub IsSmall-sums_of : (points : List Point) → IsCalibration points → IsSmall (sums_of points)
IsSmall-sums_of points is = record {
  x = omega (arith, sum_by-few (λ p. p.amount) 1000000000 points is (λ p at. at.amount));
  y = omega (arith, sum_by-few (λ p. p.area) 4503599627370495 points is (λ p at. omega (arith, at.area)));
  xx = omega (arith, sum_by-few (λ p. p.amount * p.amount) (1000000000 * 1000000000) points is (λ p at. product-le p.amount p.amount 1000000000 1000000000 at.amount at.amount));
  xy = omega (arith, sum_by-few (λ p. p.amount * p.area) (1000000000 * 4503599627370495) points is (λ p at. product-le p.amount p.area 1000000000 4503599627370495 at.amount (omega (arith, at.area))));
  yy = omega (arith, sum_by-few (λ p. p.area * p.area) (4503599627370495 * 4503599627370495) points is (λ p at. product-le p.area p.area 4503599627370495 4503599627370495 (omega (arith, at.area)) (omega (arith, at.area))));
}

-- sums by their parts
abbrev parts : ℕ → ℕ → ℕ → ℕ → ℕ → Sums
parts x y xx xy yy = record { x = x; y = y; xx = xx; xy = xy; yy = yy }

-- sums with equal parts are equal
parts_eq : (x x' y y' xx xx' xy xy' yy yy' : ℕ) → x ≡ x' → y ≡ y' → xx ≡ xx' → xy ≡ xy' → yy ≡ yy' → parts x y xx xy yy ≡ parts x' y' xx' xy' yy'
parts_eq x x' y y' xx xx' xy xy' yy yy' a b c d e = cc

sums_ext : (s t : Sums) → s.x ≡ t.x → s.y ≡ t.y → s.xx ≡ t.xx → s.xy ≡ t.xy → s.yy ≡ t.yy → s ≡ t
sums_ext s t x y xx xy yy = parts_eq s.x t.x s.y t.y s.xx t.xx s.xy t.xy s.yy t.yy x y xx xy yy

-- the sums of a list with one point more
sums_of-insert : (points : List Point) (i : ℕ) (p : Point) → with_point (sums_of points) p ≡ sums_of (insert points i p)
sums_of-insert points i p = sums_ext (with_point (sums_of points) p) (sums_of (insert points i p))
    (sym (sum_by-insert (λ q. q.amount) points i p))
    (sym (sum_by-insert (λ q. q.area) points i p))
    (sym (sum_by-insert (λ q. q.amount * q.amount) points i p))
    (sym (sum_by-insert (λ q. q.amount * q.area) points i p))
    (sym (sum_by-insert (λ q. q.area * q.area) points i p))

-- kept sums are small
pub IsSmall-kept : (points : List Point) (places : ℕ) (s : Sums) → IsKept points places s → IsSmall s
IsSmall-kept points places s kept = subst IsSmall (sym kept.sums) (IsSmall-sums_of points kept.calibration)

-- a calibration stays one with one point more
pub IsKept-insert : (points more : List Point) (i places places' : ℕ) (s t : Sums) (p : Point) → IsKept points places s → IsPoint p → length points < 64 → i ≤ length points → more ≡ insert points i p → places ≤ places' → t ≡ with_point s p → IsKept more places' t
IsKept-insert points more i places places' s t p kept is room place items grown sums = record {
  calibration = record {
    few = let e : length more ≡ length points + 1 = ap length items ∙ length-insert points i p place in omega arith;
    within = subst (All IsPoint) (sym items) (All-append IsPoint _ _ (All-take IsPoint i points kept.calibration.within) (All-cons IsPoint p _ is (All-drop IsPoint i points kept.calibration.within)));
  };
  room = let had = kept.room in omega arith;
  sums = sums ∙ ap (λ u. with_point u p) kept.sums ∙ sums_of-insert points i p ∙ ap sums_of (sym items);
}

-- the parts of sums with one point more tell the sums
with_point_cancel : (s t : Sums) (p : Point) → with_point s p ≡ with_point t p → s ≡ t
with_point_cancel s t p e = sums_ext s t
    (let h : s.x + p.amount ≡ t.x + p.amount = ap (λ r. r.x) e in omega arith)
    (let h : s.y + p.area ≡ t.y + p.area = ap (λ r. r.y) e in omega arith)
    (let h : s.xx + p.amount * p.amount ≡ t.xx + p.amount * p.amount = ap (λ r. r.xx) e in omega arith)
    (let h : s.xy + p.amount * p.area ≡ t.xy + p.amount * p.area = ap (λ r. r.xy) e in omega arith)
    (let h : s.yy + p.area * p.area ≡ t.yy + p.area * p.area = ap (λ r. r.yy) e in omega arith)

-- the sums of a list without one of its points, with that point again
sums_of-remove : (points : List Point) (i : ℕ) (d : Point) → i < length points → with_point (sums_of (remove points i)) (get_or points i d) ≡ sums_of points
sums_of-remove points i d within = sums_ext (with_point (sums_of (remove points i)) (get_or points i d)) (sums_of points)
    (sum_by-remove (λ q. q.amount) points i d within)
    (sum_by-remove (λ q. q.area) points i d within)
    (sum_by-remove (λ q. q.amount * q.amount) points i d within)
    (sum_by-remove (λ q. q.amount * q.area) points i d within)
    (sum_by-remove (λ q. q.area * q.area) points i d within)

-- a calibration stays one with one point less
pub IsKept-remove : (points fewer : List Point) (i places places' : ℕ) (s t : Sums) (p : Point) → IsKept points places s → i < length points → p ≡ get_or points i p → fewer ≡ remove points i → places' ≡ places → with_point t p ≡ s → IsKept fewer places' t
IsKept-remove points fewer i places places' s t p kept within is items same less = record {
  calibration = record {
    few = let e : length fewer + 1 ≡ length points = ap (λ xs. length xs + 1) items ∙ length-remove points i within in let had = kept.calibration.few in omega arith;
    within = subst (All IsPoint) (sym items) (All-append IsPoint _ _ (All-take IsPoint i points kept.calibration.within) (All-drop IsPoint (suc i) points kept.calibration.within));
  };
  room = let had = kept.room in omega arith;
  sums = with_point_cancel t (sums_of (remove points i)) p (less ∙ kept.sums ∙ sym (ap (λ q. with_point (sums_of (remove points i)) q) is ∙ sums_of-remove points i p within)) ∙ ap sums_of (sym items);
}
