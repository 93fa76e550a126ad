-- The values of checks as the loops take them.
use Rattle.std.proofs.Common.{◌≡◌, ◌∙◌, ℕ, ◌+◌, ◌<◌, List, [], ◌∷◌, ◌++◌, length, get_or, drop, sym, ap, arith}
use Rattle.std.proofs.Common.{Result, Bool, true, false, cond, map, take, ◌≤◌}
use Rattle.std.specs.Prelude.{Ok}
use Rattle.std.proofs.lemmas.List.{length-map, map-append, take-append-drop, take_more}
use Rattle.std.proofs.lemmas.List.Elements.{filter-append}
use Rattle.cds_base.specs.Answers.{◌>>=◌}
use Rattle.cds_base.specs.declared.peak.Missing.{Missing}
use Rattle.cds_rules.specs.declared.check.Check.{Check}
use Rattle.cds_graph.specs.declared.found.FoundRow.{FoundRow as HeldRow}
use Rattle.cds_graph.specs.Checks.{replicates_of, taken_in}
use Rattle.cds_graph.specs.Found.{FoundRow}
use Rattle.cds_graph.specs.Held.{row_shown}
use Rattle.cds_graph.specs.Rows.{is_replicate}
use Rattle.cds_graph.proofs.FoundLaws.{take-fits, take-full}

-- values, and those of a list behind them
abbrev pub behind : List ℕ → Result (List ℕ) Missing → Result (List ℕ) Missing
behind values later = later >>= λ rest. Ok (values ++ rest)

-- the replicates of one row more
replicates-one : (rows : List HeldRow) (i : ℕ) (row : HeldRow) → i < length rows → row ≡ get_or rows i row →
    replicates_of (map row_shown (take (i + 1) rows))
    ≡ replicates_of (map row_shown (take i rows)) ++ replicates_of (row_shown row ∷ [])
replicates-one rows i row within is =
    ap (λ rs. replicates_of (map row_shown rs))
    (take_more rows i row within ∙ ap (λ r. take i rows ++ r ∷ []) (sym is))
    ∙ ap replicates_of (map-append row_shown (take i rows) (row ∷ []))
    ∙ filter-append (λ (r : FoundRow). is_replicate r.row.kind) (map row_shown (take i rows)) (row_shown row ∷ [])

-- one row is at most one replicate
replicates-few : (row : FoundRow) → length (replicates_of (row ∷ [])) ≤ 1
replicates-few row = by_kind (is_replicate row.row.kind)
  where
    by_kind : (b : Bool) → length (cond b (row ∷ []) []) ≤ 1
    by_kind true = omega arith
    by_kind false = omega arith

-- what is taken of one row more, while there is room
pub taken-more : (check : Check) (n : ℕ) (rows : List HeldRow) (i : ℕ) (row : HeldRow)
    (before after : List (Result ℕ Missing)) → i < length rows → row ≡ get_or rows i row → length before < n →
    after ≡ before ++ map (taken_in check) (replicates_of (row_shown row ∷ [])) →
    before ≡ map (taken_in check) (take n (replicates_of (map row_shown (take i rows)))) →
    after ≡ map (taken_in check) (take n (replicates_of (map row_shown (take (i + 1) rows))))
taken-more check n rows i row before after within is room made so_far =
    let front = replicates_of (map row_shown (take i rows)) in
    let one = replicates_of (row_shown row ∷ []) in
    let count : length before ≡ length (take n front) =
    ap (λ xs. length xs) so_far ∙ length-map (take n front) (taken_in check) in
    let fits : take n (front ++ one) ≡ take n front ++ one =
    take-fits n front one (omega (arith, room, count, replicates-few (row_shown row))) in
    made ∙ ap (λ xs. xs ++ map (taken_in check) one) so_far
    ∙ sym (map-append (taken_in check) (take n front) one)
    ∙ ap (map (taken_in check)) (sym (ap (take n) (replicates-one rows i row within is) ∙ fits))

-- what is taken of the rows in front is all where there is no more room
pub taken-full : (check : Check) (n : ℕ) (rows : List HeldRow) (i : ℕ) (taken : List (Result ℕ Missing)) →
    n ≤ length taken → taken ≡ map (taken_in check) (take n (replicates_of (map row_shown (take i rows)))) →
    taken ≡ map (taken_in check) (take n (replicates_of (map row_shown rows)))
taken-full check n rows i taken full so_far =
    let front = replicates_of (map row_shown (take i rows)) in
    let back = replicates_of (map row_shown (drop i rows)) in
    let count : length taken ≡ length (take n front) =
    ap (λ xs. length xs) so_far ∙ length-map (take n front) (taken_in check) in
    let all : replicates_of (map row_shown rows) ≡ front ++ back =
    ap (λ rs. replicates_of (map row_shown rs)) (sym (take-append-drop i rows))
    ∙ ap replicates_of (map-append row_shown (take i rows) (drop i rows))
    ∙ filter-append (λ (r : FoundRow). is_replicate r.row.kind) (map row_shown (take i rows))
    (map row_shown (drop i rows)) in
    so_far ∙ ap (map (taken_in check)) (sym (ap (take n) all ∙ take-full n front back (omega (arith, full, count))))
