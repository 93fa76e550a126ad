-- The text of what is found in a row, by the two forms in which it is held.
use Rattle.std.proofs.Common.{◌≡◌, ◌++◌, ◌∷◌, [], ◌+◌, ◌<◌, ℕ, List, map, refl, ap, arith}
use Rattle.std.specs.Prelude.{codes, decimal}
use Rattle.cds_graph.specs.Nodes.{IsCounted}
use Rattle.cds_integrate.specs.Row.{Answer, Peaks, TooMany, peaks_in, too_many_in}
use Rattle.cds_integrate.specs.Seen.{peak_seen, seen}
use Rattle.cds_rules.specs.declared.component.Component.{Component}
use Rattle.cds_report.specs.Lines.{line, each_numbered}
use Rattle.cds_report.specs.RowText.{peak_line, found_text}

-- the texts of things as they are seen
each-seen : {A B : Type 0} (text : ℕ → B → List ℕ) (seen : A → B) (number : ℕ) (things : List A) →
    each_numbered (λ n thing. text n (seen thing)) number things ≡ each_numbered text number (map seen things)
each-seen text seen number [] = refl
each-seen text seen number (thing ∷ things) =
    ap (λ rest. text number (seen thing) ++ rest) (each-seen text seen (number + 1) things)

-- the text of the peaks of a row that hasn't too many
pub found-peaks : (components : List Component) (period : ℕ) (part : Answer) → IsCounted part → too_many_in part ≡ 0 →
    each_numbered (λ n peak. peak_line components period n (peak_seen peak)) 1 (peaks_in part)
    ≡ found_text components period (seen part)
found-peaks components period (Peaks list) counted none = each-seen (peak_line components period) peak_seen 1 list
found-peaks components period (TooMany number) counted none = absurd (omega (arith, counted number refl, none))

-- the text of a row that has too many
pub found-many : (components : List Component) (period : ℕ) (part : Answer) → 0 < too_many_in part →
    line (codes "too many peaks") (decimal (too_many_in part) ∷ []) ≡ found_text components period (seen part)
found-many components period (Peaks list) some = absurd (omega (arith, some))
found-many components period (TooMany number) some = refl
