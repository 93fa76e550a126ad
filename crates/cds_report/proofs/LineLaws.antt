-- Words, one after the other.
use Rattle.std.proofs.Common.{◌≡◌, ◌∙◌, ◌++◌, ◌∷◌, [], ℕ, List, ap, refl, sym}
use Rattle.std.proofs.lemmas.List.{append_assoc}
use Rattle.std.specs.Prelude.{codes}
use Rattle.cds_report.specs.Lines.{line, spaced}

-- words behind words are spaced as each by itself
pub spaced_append : (words more : List (List ℕ)) → spaced (words ++ more) ≡ spaced words ++ spaced more
spaced_append [] more = refl
spaced_append (word ∷ words) more =
    ap (λ rest. codes " " ++ (word ++ rest)) (spaced_append words more)
    ∙ ap (λ rest. codes " " ++ rest) (sym (append_assoc word (spaced words) (spaced more)))

-- words that are written one after the other, in three parts
pub three_parts : (text : List ℕ) (first second third : List (List ℕ)) →
    ((text ++ spaced first) ++ spaced second) ++ spaced third ≡ text ++ spaced (first ++ (second ++ third))
three_parts text first second third =
    append_assoc (text ++ spaced first) (spaced second) (spaced third)
    ∙ append_assoc text (spaced first) (spaced second ++ spaced third)
    ∙ ap (λ rest. text ++ rest) (ap (λ rest. spaced first ++ rest) (sym (spaced_append second third))
    ∙ sym (spaced_append first (second ++ third)))

-- the line of words that are written in two parts
pub line_in_parts : (text first : List ℕ) (words more : List (List ℕ)) →
    ((text ++ (first ++ spaced words)) ++ spaced more) ++ codes "\n" ≡ text ++ line first (words ++ more)
line_in_parts text first words more =
    append_assoc (text ++ (first ++ spaced words)) (spaced more) (codes "\n")
    ∙ append_assoc text (first ++ spaced words) (spaced more ++ codes "\n")
    ∙ ap (λ rest. text ++ rest) (append_assoc first (spaced words) (spaced more ++ codes "\n")
    ∙ ap (λ rest. first ++ rest) (sym (append_assoc (spaced words) (spaced more) (codes "\n"))
    ∙ ap (λ rest. rest ++ codes "\n") (sym (spaced_append words more))))

-- texts that are written one after the other
pub three_texts : (text a b c : List ℕ) → ((text ++ a) ++ b) ++ c ≡ text ++ (a ++ (b ++ c))
three_texts text a b c = append_assoc (text ++ a) b c ∙ append_assoc text a (b ++ c)

pub five_texts : (text a b c d e : List ℕ) →
    ((((text ++ a) ++ b) ++ c) ++ d) ++ e ≡ text ++ (a ++ (b ++ (c ++ (d ++ e))))
five_texts text a b c d e = three_texts ((text ++ a) ++ b) c d e ∙ three_texts text a b (c ++ (d ++ e))

-- four texts before another one
pub four_before : (a b c d text : List ℕ) → (a ++ (b ++ (c ++ d))) ++ text ≡ a ++ (b ++ (c ++ (d ++ text)))
four_before a b c d text =
    append_assoc a (b ++ (c ++ d)) text
    ∙ ap (λ rest. a ++ rest) (append_assoc b (c ++ d) text ∙ ap (λ rest. b ++ rest) (append_assoc c d text))
