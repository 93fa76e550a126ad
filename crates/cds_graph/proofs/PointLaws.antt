-- The points of a component as the loops take them.
use Rattle.std.proofs.Common.{◌≡◌, ◌∙◌, ℕ, ◌+◌, ◌<◌, List, [], ◌∷◌, ◌++◌, length, get_or, take, map, Option}
use Rattle.std.proofs.Common.{sym, ap, append-nil}
use Rattle.std.specs.List.{filter_map, flat_map}
use Rattle.std.specs.Prelude.{option_to_list}
use Rattle.std.proofs.lemmas.Grind.{flat_map-append}
use Rattle.std.proofs.lemmas.List.{append_assoc, take_more, map-append}
use Rattle.cds_calib.specs.declared.point.Point.{Point}
use Rattle.cds_calib.specs.declared.point.TheConstants.{MOST_POINTS}
use Rattle.cds_graph.specs.declared.found.FoundListed.{FoundListed as HeldListed}
use Rattle.cds_graph.specs.Held.{listed_shown}
use Rattle.cds_graph.specs.Points.{points_in, points_from}
use Rattle.cds_graph.proofs.FoundLaws.{given-one, take-front}

-- the points of one listed sequence more
pub points-more : (name : List ℕ) (standards : List HeldListed) (i : ℕ) (listed : HeldListed)
    (before after : List Point) → i < length standards → listed ≡ get_or standards i listed →
    after ≡ take MOST_POINTS (before ++ points_in name (listed_shown listed)) →
    before ≡ points_from (map listed_shown (take i standards)) name →
    after ≡ points_from (map listed_shown (take (i + 1) standards)) name
unfolding points_from
points-more name standards i listed before after within is made so_far =
    let front = map listed_shown (take i standards) in
    let one = points_in name (listed_shown listed) in
    let taken : take (i + 1) standards ≡ take i standards ++ listed ∷ [] =
    take_more standards i listed within ∙ ap (λ l. take i standards ++ l ∷ []) (sym is) in
    let seen : map listed_shown (take (i + 1) standards) ≡ front ++ listed_shown listed ∷ [] =
    ap (map listed_shown) taken ∙ map-append listed_shown (take i standards) (listed ∷ []) in
    let all : flat_map (points_in name) (front ++ listed_shown listed ∷ []) ≡ flat_map (points_in name) front ++ one =
    flat_map-append (points_in name) front (listed_shown listed ∷ [])
    ∙ ap (λ ps. flat_map (points_in name) front ++ ps) (append-nil one) in
    made ∙ ap (λ ps. take MOST_POINTS (ps ++ one)) so_far
    ∙ take-front MOST_POINTS (flat_map (points_in name) front) one
    ∙ ap (take MOST_POINTS) (sym (ap (flat_map (points_in name)) seen ∙ all))

-- the point of one standard more, if it gives one
pub point-more : {X : Type 0} (old : List Point) (gives : X → Option Point) (rows : List X) (i : ℕ) (row : X)
    (before after : List Point) → i < length rows → row ≡ get_or rows i row →
    after ≡ take MOST_POINTS (before ++ option_to_list (gives row)) →
    before ≡ take MOST_POINTS (old ++ filter_map gives (take i rows)) →
    after ≡ take MOST_POINTS (old ++ filter_map gives (take (i + 1) rows))
point-more old gives rows i row before after within is made so_far =
    let front = filter_map gives (take i rows) in
    made ∙ ap (λ ps. take MOST_POINTS (ps ++ option_to_list (gives row))) so_far
    ∙ take-front MOST_POINTS (old ++ front) (option_to_list (gives row))
    ∙ ap (take MOST_POINTS) (append_assoc old front (option_to_list (gives row)))
    ∙ ap (λ ps. take MOST_POINTS (old ++ ps)) (sym (given-one gives rows i row within is))
