-- What options give, word by word.
use Rattle.std.proofs.Common.{◌≡◌, ◌∙◌, ◌∷◌, ℕ, List, [], true, false, Some, refl, sym, ap, map, take, drop, length, ◌-◌, ◌≤◌, arith, get_or, String, Global}
use Rattle.std.specs.String.{string_bytes}
use Rattle.std.proofs.lemmas.List.{take_all}
use Rattle.cds_words.specs.Options.{Given, given_from, with_joined, with_option, is_joined}

-- an option that is stated in one word
joined_first : (g m : Given) (word : List ℕ) (rest : List (List ℕ)) → is_joined word ≡ true → with_joined g word ≡ Some m → given_from g (word ∷ rest) ≡ given_from m rest
unfolding given_from
joined_first g m word [] joined with = rw (joined, with) refl
joined_first g m word (next ∷ rest) joined with = rw (joined, with) refl

-- an option that is stated in two words
pair_first : (g m : Given) (name value : List ℕ) (rest : List (List ℕ)) → is_joined name ≡ false → with_option g name value ≡ Some m → given_from g (name ∷ value ∷ rest) ≡ given_from m rest
unfolding given_from
pair_first g m name value rest joined with = rw (joined, with) refl

-- the words behind the first
rest_of : (y : String Global) (ys : List (String Global)) → take (length (y ∷ ys) - 1) (drop 1 (y ∷ ys)) ≡ ys
rest_of y ys = take_all (length (y ∷ ys) - 1) ys (omega arith)

-- words of which the first states an option
pub joined_words : (words : List (String Global)) (g m : Given) (x : String Global) → 1 ≤ length words → x ≡ get_or words 0 x → is_joined (string_bytes x) ≡ true → with_joined g (string_bytes x) ≡ Some m → given_from g (map string_bytes words) ≡ given_from m (map string_bytes (take (length words - 1) (drop 1 words)))
joined_words [] g m x some at joined with = absurd (omega arith)
joined_words (y ∷ ys) g m x some at joined with =
    ap (λ w. given_from g (string_bytes w ∷ map string_bytes ys)) (sym at)
    ∙ joined_first g m (string_bytes x) (map string_bytes ys) joined with
    ∙ ap (λ rest. given_from m (map string_bytes rest)) (sym (rest_of y ys))

-- words of which the first is the value of an option
pub pair_words : (words : List (String Global)) (g m : Given) (name : List ℕ) (x : String Global) → 1 ≤ length words → x ≡ get_or words 0 x → is_joined name ≡ false → with_option g name (string_bytes x) ≡ Some m → given_from g (name ∷ map string_bytes words) ≡ given_from m (map string_bytes (take (length words - 1) (drop 1 words)))
pair_words [] g m name x some at joined with = absurd (omega arith)
pair_words (y ∷ ys) g m name x some at joined with =
    ap (λ w. given_from g (name ∷ string_bytes w ∷ map string_bytes ys)) (sym at)
    ∙ pair_first g m name (string_bytes x) (map string_bytes ys) joined with
    ∙ ap (λ rest. given_from m (map string_bytes rest)) (sym (rest_of y ys))
