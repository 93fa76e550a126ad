-- How far the judging of a list has come.
use Rattle.std.proofs.Common.{◌≡◌, ℕ, ◌+◌, ◌<◌, ◌≤◌, List, [], ◌∷◌, ◌++◌, length, drop, Result, Ok, Err, refl, ap, sym, ◌∙◌}
use Rattle.std.proofs.lemmas.List.{drop_all, drop_more, length_push}
use Rattle.cds_base.specs.Answers.{◌>>=◌}
use Rattle.cds_fields.specs.Datum.{other}
use Rattle.cds_fields.specs.Section.{Entries, Entry, entry_at, each, each_value}

-- what is done and the values that are left state what all values state
pub record Judged {X E : Type 0} (judge : List X → Entry E → Result X E) (es : Entries E) (place : ℕ) (done : List X) : Type 0 where
  pub left : each_value judge es.path es.told done (drop place es.values) ≡ each judge es
  pub count : length done ≡ place

module _ {X E : Type 0} (judge : List X → Entry E → Result X E) (es : Entries E) where
  -- the first of the values that are left
  each-drop : (place : ℕ) (done : List X) → place < length es.values → length done ≡ place
      → each_value judge es.path es.told done (drop place es.values)
      ≡ (judge done (entry_at place es) >>= λ x. each_value judge es.path es.told (done ++ x ∷ []) (drop (place + 1) es.values))
  unfolding each_value
  each-drop place done within count = rw (drop_more es.values place other within, count)

  -- an entry that is refused
  pub judged_err : (place : ℕ) (done : List X) (entry : Entry E) (e : E) → Judged judge es place done → place < length es.values
      → entry ≡ entry_at place es → judge done entry ≡ Err e → each judge es ≡ Err e
  judged_err place done entry e so_far within is refused =
      sym so_far.left ∙ each-drop place done within so_far.count ∙ rw (← is, refused)

  -- one more entry
  pub judged_more : (place : ℕ) (done : List X) (entry : Entry E) (x : X) → Judged judge es place done → place < length es.values
      → entry ≡ entry_at place es → judge done entry ≡ Ok x → Judged judge es (place + 1) (done ++ x ∷ [])
  judged_more place done entry x so_far within is taken = record {
    left = sym (each-drop place done within so_far.count ∙ rw (← is, taken)) ∙ so_far.left;
    count = length_push done x ∙ ap (λ n. n + 1) so_far.count;
  }

  -- no entry yet
  pub judged_none : Judged judge es 0 []
  judged_none = record { left = refl; count = refl }

  -- all entries
  pub judged_all : (place : ℕ) (done : List X) → Judged judge es place done → length es.values ≤ place → each judge es ≡ Ok done
  unfolding each_value
  judged_all place done so_far past = sym so_far.left ∙ rw (drop_all place es.values past)

-- how the judging of a list goes on and ends
pub ruleset judging = (judged_err, judged_more, judged_none, judged_all)
