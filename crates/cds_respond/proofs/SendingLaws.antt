-- What was sent so far of a text.
use Rattle.std.proofs.Common.{◌≡◌, ℕ, ◌+◌, ◌-◌, List, ◌++◌, Option, Result, Ok, Err, subst, length, take, drop, refl, sym, ◌∙◌, ap, arith, length-drop, length-append}
use Rattle.std.specs.Prelude.{OnOk, OnErr}
use Rattle.std.proofs.lemmas.List.{take-append-le}
use Rattle.cds_base.specs.Told.{then_more}
use Rattle.cds_base.proofs.ToldLaws.{then_more_twice}
use Rattle.cds_respond.specs.Sending.{HoldsPart}
use Rattle.std.proofs.Math.Seq.{take-add, take-append-add, take-length}

-- a front of the text, and then a front of its rest
pub take_sent : (text : List ℕ) (at n : ℕ) → take (at + n) text ≡ take at text ++ take n (take (length text - at) (drop at text))
take_sent text at n = rw (take-add at n text, ← length-drop at text, take-length (drop at text)) refl

-- a front of a text is a front of what begins with it
pub prefix_front : (before now : Option (List ℕ)) (a b : List ℕ) → HoldsPart before now a → HoldsPart before now (a ++ b)
prefix_front before now a b h = (
  h.0,
  omega (arith, h.1, length-append a b),
  h.2 ∙ ap (then_more before) (sym (take-append-le h.0 a b (omega (arith, h.1)))),
)

-- a whole text, and then a front of another
pub prefix_behind : (before mid now : Option (List ℕ)) (a b : List ℕ) → mid ≡ then_more before a → HoldsPart mid now b → HoldsPart before now (a ++ b)
prefix_behind before mid now a b is h = (
  length a + h.0,
  omega (arith, h.1, length-append a b),
  h.2
      ∙ ap (λ (m : Option (List ℕ)). then_more m (take h.0 b)) is
      ∙ then_more_twice before a (take h.0 b)
      ∙ ap (then_more before) (sym (take-append-add a b h.0)),
)

module _ {A E : Type 0} (r : Result A E) (before now : Option (List ℕ)) where
  -- what was sent is a text by another name
  pub text_ok : (a b : List ℕ) → OnOk r (now ≡ then_more before a) → a ≡ b → OnOk r (now ≡ then_more before b)
  text_ok a b h is = subst (λ (t : List ℕ). OnOk r (now ≡ then_more before t)) is h

  pub text_err : (a b : List ℕ) → OnErr r (HoldsPart before now a) → a ≡ b → OnErr r (HoldsPart before now b)
  text_err a b h is = subst (λ (t : List ℕ). OnErr r (HoldsPart before now t)) is h

  -- what was sent stands behind a text that was sent whole
  pub behind_ok : (mid : Option (List ℕ)) (a b : List ℕ) → mid ≡ then_more before a → OnOk r (now ≡ then_more mid b) → OnOk r (now ≡ then_more before (a ++ b))
  behind_ok mid a b is = on r
    where
      on : (r : Result A E) → OnOk r (now ≡ then_more mid b) → OnOk r (now ≡ then_more before (a ++ b))
      on (Ok u) h = h ∙ ap (λ (k : Option (List ℕ)). then_more k b) is ∙ then_more_twice before a b
      on (Err e) h = tt

  pub behind_err : (mid : Option (List ℕ)) (a b : List ℕ) → mid ≡ then_more before a → OnErr r (HoldsPart mid now b) → OnErr r (HoldsPart before now (a ++ b))
  behind_err mid a b is = on r
    where
      on : (r : Result A E) → OnErr r (HoldsPart mid now b) → OnErr r (HoldsPart before now (a ++ b))
      on (Ok u) h = tt
      on (Err e) h = prefix_behind before mid now a b is h
