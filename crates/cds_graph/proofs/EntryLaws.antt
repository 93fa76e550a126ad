-- Sequences with their results, as they are kept and as they are made.
use Rattle.std.proofs.Common.{◌≡◌, ◌∙◌, ℕ, Bool, true, false, ◌&&◌, cond, List, [], ◌∷◌, map, Option, Some, None, find}
use Rattle.std.proofs.Common.{refl, sym, ap, ap₂, subst}
use Rattle.std.specs.Prelude.{All}
use Rattle.std.specs.Str.{bytes_eq}
use Rattle.std.specs.declared.alloc.Global.{Global}
use Rattle.std.specs.declared.rc.Rc.{Rc}
use Rattle.std.proofs.lemmas.Bool.Decides.{Decides-and}
use Rattle.std.proofs.lemmas.List.Elements.{All-head, All-tail}
use Rattle.std.proofs.lemmas.Slice.Eq.{bytes_eq-Decides}
use Rattle.cds_sign.specs.declared.inputs.Inputs.{Inputs}
use Rattle.cds_book.specs.Inputs.{inputs_of}
use Rattle.cds_book.specs.Same.{same_inputs}
use Rattle.cds_book.specs.Tables.{TablesState}
use Rattle.cds_book.proofs.SameLaws.{same_inputs-Decides}
use Rattle.cds_graph.specs.declared.entry.Entry.{Entry}
use Rattle.cds_graph.specs.Building.{AreSequences, IsRightSequence}
use Rattle.cds_graph.specs.Found.{FoundSequence, found_of}
use Rattle.cds_graph.specs.HeldGraph.{entry_shown, sequences_shown}
use Rattle.cds_graph.specs.Kept.{KeptSequence, sequence_with}
use Rattle.cds_graph.specs.Recorded.{recorded_of}
use Rattle.cds_graph.specs.Results.{Results, eval, evaluated}

-- a kept sequence of this name with these inputs has their results
pub entry-kept : (t : TablesState) (kept : List (Rc Entry Global)) (name : List ℕ) (inputs : Inputs)
    (found : Rc Entry Global) → AreSequences t (sequences_shown kept) →
    find (λ (e : Rc Entry Global). bytes_eq e.value.name name && same_inputs e.value.inputs inputs) kept ≡ Some found →
    entry_shown found.value ≡ sequence_with t name inputs
entry-kept t [] name inputs found right is = cc
entry-kept t (e ∷ es) name inputs found right is =
    by_test (bytes_eq e.value.name name && same_inputs e.value.inputs inputs) refl is
    (All-head (IsRightSequence t) (entry_shown e.value) (sequences_shown es) right)
    (entry-kept t es name inputs found
    (All-tail (IsRightSequence t) (entry_shown e.value) (sequences_shown es) right))
  where
    Later : Option (Rc Entry Global)
    Later = find (λ (x : Rc Entry Global). bytes_eq x.value.name name && same_inputs x.value.inputs inputs) es

    by_test : (b : Bool) → (bytes_eq e.value.name name && same_inputs e.value.inputs inputs) ≡ b →
        cond b (Some e) Later ≡ Some found → IsRightSequence t (entry_shown e.value) →
        (Later ≡ Some found → entry_shown found.value ≡ sequence_with t name inputs) →
        entry_shown found.value ≡ sequence_with t name inputs
    by_test true same is right later =
        let one : e ≡ found = cc in
        let each = (Decides-and _ _ (bytes_eq-Decides e.value.name name)
        (same_inputs-Decides e.value.inputs inputs)).0 same in
        subst (λ (x : Rc Entry Global). entry_shown x.value ≡ sequence_with t name inputs) one
        (right ∙ ap₂ (sequence_with t) each.0 each.1)
    by_test false same is right later = later is

-- a sequence that is made of what was found for its inputs
pub entry-made : (t : TablesState) (name : List ℕ) (inputs own : Inputs) (o : Option Inputs) (results : Results)
    (found : FoundSequence) → o ≡ inputs_of t name → o ≡ Some own → inputs_of t name ≡ Some inputs →
    results ≡ evaluated found → found ≡ found_of (recorded_of t inputs) →
    let one : KeptSequence = record { name = name; inputs = own; found = found; results = results } in
    one ≡ sequence_with t name inputs
unfolding eval
entry-made t name inputs own o results found read some is computed gathered =
    let one : Some own ≡ Some inputs = sym some ∙ read ∙ is in
    let alike : own ≡ inputs = cc in
    rw (alike, computed, gathered) refl
