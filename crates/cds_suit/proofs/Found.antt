-- The first element of the rest of a list that passes a test.
use Rattle.std.proofs.Common.{◌≡◌, ℕ, suc, ◌+◌, ◌<◌, Bool, true, false, cond, List, length, get_or, drop, Some, find, ap, ◌∙◌, arith, drop-cons}

-- it is the next element where that passes
pub find-here : {X : Type 0} (test : X → Bool) (xs : List X) (i : ℕ) (d : X) → i < length xs → test (get_or xs i d) ≡ true → find test (drop i xs) ≡ Some (get_or xs i d)
find-here test xs i d within passes =
    ap (find test) (drop-cons xs i d within) ∙ ap (λ b. cond b (Some (get_or xs i d)) (find test (drop (suc i) xs))) passes

-- and else it is that of what follows
pub find-past : {X : Type 0} (test : X → Bool) (xs : List X) (i : ℕ) (d : X) → i < length xs → test (get_or xs i d) ≡ false → find test (drop i xs) ≡ find test (drop (i + 1) xs)
find-past test xs i d within fails =
    let next : suc i ≡ i + 1 = omega arith in
    ap (find test) (drop-cons xs i d within) ∙ ap (λ b. cond b (Some (get_or xs i d)) (find test (drop (suc i) xs))) fails ∙ ap (λ n. find test (drop n xs)) next
