-- Where parts that tile a range lie, and which samples lie inside none of them.
use Rattle.std.proofs.Common.{◌≡◌, ℕ, zero, suc, ◌+◌, ◌<◌, ◌≤◌, ◌⊎◌, inl, inr, List, [], ◌∷◌, length, take, refl, arith}
use Rattle.std.specs.Prelude.{slice_index_or}
use Rattle.std.specs.List.{fold}
use Rattle.cds_base.specs.declared.cluster.Part.{Part}
use Rattle.cds_base.specs.declared.cluster.Cut.TheVariants.{Start}
use Rattle.cds_base.specs.Tiles.{Tiles}

-- a sample lies inside no part
abbrev pub IsClear : List Part → ℕ → Type 0
IsClear [] n = Unit {0}
IsClear (part ∷ parts) n = ((n ≤ part.start) ⊎ (part.end ≤ n)) × IsClear parts n

-- parts lie in order
pub tiles-order : (start end : ℕ) (parts : List Part) → Tiles start parts end → start ≤ end
tiles-order start end [] tiled = omega (arith, tiled)
tiles-order start end (part ∷ parts) tiled = omega (arith, tiled.1, tiles-order part.end end parts tiled.2)

-- a sample before all parts, and one behind them, is clear
pub clear-low : (start end n : ℕ) (parts : List Part) → Tiles start parts end → n ≤ start → IsClear parts n
clear-low start end n [] tiled low = tt
clear-low start end n (part ∷ parts) tiled low =
    (inl (omega (arith, tiled.0)), clear-low part.end end n parts tiled.2 (omega (arith, tiled.1)))

pub clear-high : (start end n : ℕ) (parts : List Part) → Tiles start parts end → end ≤ n → IsClear parts n
clear-high start end n [] tiled high = tt
clear-high start end n (part ∷ parts) tiled high =
    (inr (omega (arith, tiles-order part.end end parts tiled.2)), clear-high part.end end n parts tiled.2 high)

-- where the last of some parts ends, or this sample where there is none
abbrev pub reached : ℕ → List Part → ℕ
reached start parts = fold (λ end part. part.end) start parts

-- each part of a cluster lies within it
pub part-within : (start end k : ℕ) (parts : List Part) (d : Part) → Tiles start parts end → k < length parts →
    (start ≤ (slice_index_or parts k d).start) × ((slice_index_or parts k d).start < (slice_index_or parts k d).end) ×
    ((slice_index_or parts k d).end ≤ end)
part-within start end k [] d tiled below = absurd (omega arith)
part-within start end zero (part ∷ parts) d tiled below =
    (omega (arith, tiled.0), omega (arith, tiled.0, tiled.1), tiles-order part.end end parts tiled.2)
part-within start end (suc k) (part ∷ parts) d tiled below =
    let rest = part-within part.end end k parts d tiled.2 (omega arith) in
    (omega (arith, tiled.1, rest.0), rest.1, rest.2)

-- each part begins where those before it end
pub tiles-at : (start end k : ℕ) (parts : List Part) (d : Part) → Tiles start parts end → k < length parts →
    ((slice_index_or parts k d).start ≡ reached start (take k parts)) ×
    (reached start (take (k + 1) parts) ≡ (slice_index_or parts k d).end)
tiles-at start end k [] d tiled below = absurd (omega arith)
tiles-at start end zero (part ∷ parts) d tiled below = (tiled.0, refl)
tiles-at start end (suc k) (part ∷ parts) d tiled below =
    let e : suc k + 1 ≡ suc (k + 1) = omega arith in
    rw e (tiles-at part.end end k parts d tiled.2 (omega arith))

-- all parts end with the range
pub tiles-end : (start end : ℕ) (parts : List Part) → Tiles start parts end → reached start parts ≡ end
tiles-end start end [] tiled = tiled
tiles-end start end (part ∷ parts) tiled = tiles-end part.end end parts tiled.2

-- each part takes at least one sample
pub tiles-count : (start end : ℕ) (parts : List Part) → Tiles start parts end → start + length parts ≤ end
tiles-count start end [] tiled = omega (arith, tiled)
tiles-count start end (part ∷ parts) tiled = omega (arith, tiled.1, tiles-count part.end end parts tiled.2)

-- a clear sample lies on one side of each part
pub clear-at : (n k : ℕ) (parts : List Part) (d : Part) → IsClear parts n → k < length parts →
    (n ≤ (slice_index_or parts k d).start) ⊎ ((slice_index_or parts k d).end ≤ n)
clear-at n k [] d clear below = absurd (omega arith)
clear-at n zero (part ∷ parts) d clear below = clear.0
clear-at n (suc k) (part ∷ parts) d clear below = clear-at n k parts d clear.1 (omega arith)

-- a part to stand where a list has none
abbrev pub no_part : Part
no_part = record { start = 0; apex = 0; end = 0; left = Start }
