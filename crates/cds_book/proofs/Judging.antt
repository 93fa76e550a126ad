-- How far the judging of a list has come.
use Rattle.std.proofs.Common.{◌≡◌, ◌∙◌, ℕ, ◌+◌, ◌<◌, ◌≤◌, List, [], ◌∷◌, ◌++◌, length, drop, get_or, Result, Ok, Err, refl, ap, sym}
use Rattle.std.proofs.lemmas.List.{drop_all, drop_more, length_push}
use Rattle.cds_base.specs.Answers.{◌>>=◌}
use Rattle.cds_book.specs.Judged.{each_judged}
use Rattle.cds_book.specs.declared.error.PlanError.{PlanError}

-- what is done and the items that are left come to what all items come to
pub record Judged {A B : Type 0} (judge : List B → A → Result B PlanError) (xs : List A) (place : ℕ) (done : List B) : Type 0 where
  pub left : each_judged judge done (drop place xs) ≡ each_judged judge [] xs
  pub count : length done ≡ place

module _ {A B : Type 0} (judge : List B → A → Result B PlanError) (xs : List A) where
  -- the first of the items that are left
  each-drop : (place : ℕ) (done : List B) (d : A) → place < length xs
      → each_judged judge done (drop place xs) ≡ (judge done (get_or xs place d) >>= λ y. each_judged judge (done ++ y ∷ []) (drop (place + 1) xs))
  unfolding each_judged
  each-drop place done d within = rw (drop_more xs place d within) refl

  -- an item that is refused
  pub judged_err : (place : ℕ) (done : List B) (x : A) (e : PlanError) → Judged judge xs place done → place < length xs
      → x ≡ get_or xs place x → judge done x ≡ Err e → each_judged judge [] xs ≡ Err e
  judged_err place done x e so_far within is refused =
      sym so_far.left ∙ each-drop place done x within ∙ rw (← is, refused) refl

  -- one more item
  pub judged_more : (place : ℕ) (done : List B) (x : A) (y : B) → Judged judge xs place done → place < length xs
      → x ≡ get_or xs place x → judge done x ≡ Ok y → Judged judge xs (place + 1) (done ++ y ∷ [])
  judged_more place done x y so_far within is taken = record {
    left = sym (each-drop place done x within ∙ rw (← is, taken) refl) ∙ so_far.left;
    count = length_push done y ∙ ap (λ n. n + 1) so_far.count;
  }

  -- no item yet
  pub judged_none : Judged judge xs 0 []
  judged_none = record { left = refl; count = refl }

  -- all items
  pub judged_all : (place : ℕ) (done : List B) → Judged judge xs place done → length xs ≤ place → each_judged judge [] xs ≡ Ok done
  unfolding each_judged
  judged_all place done so_far past = sym so_far.left ∙ rw (drop_all place xs past) refl

-- how the judging of a list goes on and ends
pub ruleset judging = (judged_err, judged_more, judged_none, judged_all)
