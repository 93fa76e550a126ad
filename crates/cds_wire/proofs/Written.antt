-- The texts of replies.
use Rattle.std.proofs.Common.{◌≡◌, ℕ, ◌≤◌, ◌++◌, ◌∷◌, [], List, true, refl, ap, ◌∙◌, codes, decimal}
use Rattle.std.proofs.Common.{append_assoc, arith}
use Rattle.std.proofs.lemmas.Bool.{ne_eqb, le-ltb, leb-true, and_parts}
use Rattle.json.proofs.OnLiterals.{json_on_literals}
use Rattle.json.specs.Print.{escape, escape_byte}
use Rattle.cds_wire.specs.declared.answer.Answer.TheVariants.{Refusal}
use Rattle.cds_wire.specs.declared.answer.Shown.TheVariants.{Number}
use Rattle.cds_wire.specs.Reply.{reply_text, is_plain_word}

-- a letter stands for itself
escape_byte-letter : (x : ℕ) → 97 ≤ x → escape_byte x ≡ x ∷ []
unfolding escape_byte
escape_byte-letter x h =
    rw (
      ne_eqb x 34 (λ e. omega arith),
      ne_eqb x 92 (λ e. omega arith),
      ne_eqb x 8 (λ e. omega arith),
      ne_eqb x 12 (λ e. omega arith),
      ne_eqb x 10 (λ e. omega arith),
      ne_eqb x 13 (λ e. omega arith),
      ne_eqb x 9 (λ e. omega arith),
      le-ltb x 32 (omega arith),
    )

-- a word of letters stands for itself
escape-word : (word : List ℕ) → is_plain_word word ≡ true → escape word ≡ word
escape-word [] h = refl
escape-word (x ∷ xs) h =
    let p = and_parts _ _ h in
    rw (escape_byte-letter x (leb-true 97 x (and_parts _ _ p.0).0)) (ap (λ ys. x ∷ ys) (escape-word xs p.1))

-- the text of a refusal that shows a number, its word escaped
refusal_text-escaped : (word : List ℕ) (n v : ℕ)
    → reply_text (Refusal word n (Number v))
    ≡ codes "{\"error\":\""
    ++ ((escape word ++ 34 ∷ [])
    ++ (codes ",\"number\":" ++ (decimal n ++ (codes ",\"value\":" ++ (decimal v ++ codes "}")))))
unfolding json_on_literals
refusal_text-escaped word n v = refl

-- the same parts, one behind the other
regroup : (a w b c n d v e : List ℕ)
    → a ++ ((w ++ b) ++ (c ++ (n ++ (d ++ (v ++ e))))) ≡ a ++ w ++ (b ++ c) ++ n ++ d ++ v ++ e
regroup a w b c n d v e = simp append_assoc

-- the text of a refusal that shows a number, where its word is one of small letters
pub refusal_text : (word : List ℕ) (n v : ℕ) → is_plain_word word ≡ true
    → reply_text (Refusal word n (Number v))
    ≡ codes "{\"error\":\"" ++ word ++ codes "\",\"number\":" ++ decimal n ++ codes ",\"value\":" ++ decimal v
    ++ codes "}"
refusal_text word n v plain =
    refusal_text-escaped word n v
    ∙ ap (λ w. codes "{\"error\":\""
    ++ ((w ++ 34 ∷ []) ++ (codes ",\"number\":" ++ (decimal n ++ (codes ",\"value\":" ++ (decimal v ++ codes "}"))))))
    (escape-word word plain)
    ∙ regroup (codes "{\"error\":\"") word (34 ∷ []) (codes ",\"number\":") (decimal n) (codes ",\"value\":")
    (decimal v) (codes "}")
