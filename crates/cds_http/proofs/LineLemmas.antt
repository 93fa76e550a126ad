-- Lines, and the state of a head by them.
use Rattle.std.proofs.Common.{◌≡◌, ◌≢◌, ℕ, suc, ◌+◌, ◌<◌, ◌≤◌, Bool, true, false, cond, not, eqb, ltb, List, [], ◌∷◌, ◌++◌, length, take, drop, refl, sym, ap, ◌∙◌, arith}
use Rattle.std.specs.List.{All, prefix_len}
use Rattle.std.proofs.lemmas.List.Elements.{All-head, All-tail}
use Rattle.std.proofs.lemmas.Bool.Decides.{nat_tests}
use Rattle.cds_http.specs.Lines.{lines_of, onto_line, size_of, is_empty_line, is_full_line, HeadState, open_head, crowded, large, ended, state_of_lines}
use Rattle.cds_http.specs.Scan.{state_on}

-- a line and its line feed give the first line
pub lines_of-line : (line rest : List ℕ) → All (λ b. b ≢ 10) line → lines_of (line ++ 10 ∷ rest) ≡ line ∷ lines_of rest
lines_of-line [] rest none = refl
lines_of-line (b ∷ line) rest none =
    let other : eqb b 10 ≡ false = grind (arith, nat_tests, All-head (λ (b : ℕ). b ≢ 10) b line none) in
    rw (other, lines_of-line line rest (All-tail (λ b. b ≢ 10) b line none))

-- bytes with no line feed end no line
pub lines_of-none : (bytes : List ℕ) → All (λ b. b ≢ 10) bytes → lines_of bytes ≡ []
lines_of-none [] none = refl
lines_of-none (b ∷ bytes) none =
    let other : eqb b 10 ≡ false = grind (arith, nat_tests, All-head (λ (b : ℕ). b ≢ 10) b bytes none) in
    rw (other, lines_of-none bytes (All-tail (λ b. b ≢ 10) b bytes none))

-- the lines that have ended take no more than the bytes
pub size_of-lines_of : (bytes : List ℕ) → size_of (lines_of bytes) ≤ length bytes
size_of-lines_of [] = omega arith
size_of-lines_of (b ∷ bytes) = by_test (eqb b 10) (lines_of bytes) (size_of-lines_of bytes)
  where
    by_test : (t : Bool) (lines : List (List ℕ)) → size_of lines ≤ length bytes
        → size_of (cond t ([] ∷ lines) (onto_line b lines)) ≤ suc (length bytes)
    by_test true lines fits = omega arith
    by_test false [] fits = omega arith
    by_test false (line ∷ lines) fits = omega arith

-- after whole lines, further bytes give further lines
pub lines_of-append : (x y : List ℕ) → size_of (lines_of x) ≡ length x → lines_of (x ++ y) ≡ lines_of x ++ lines_of y
lines_of-append [] y whole = refl
lines_of-append (b ∷ x) y whole = by_test (eqb b 10) (lines_of x) (lines_of (x ++ y)) whole (lines_of-append x y)
  where
    by_test : (t : Bool) (lines both : List (List ℕ)) → size_of (cond t ([] ∷ lines) (onto_line b lines)) ≡ suc (length x)
        → (size_of lines ≡ length x → both ≡ lines ++ lines_of y)
        → cond t ([] ∷ both) (onto_line b both) ≡ cond t ([] ∷ lines) (onto_line b lines) ++ lines_of y
    by_test true lines both whole later = rw (later (omega arith))
    by_test false [] both whole later = absurd (omega arith)
    by_test false (line ∷ lines) both whole later = rw (later (omega arith))

-- however the bytes go on, the lines that have ended stay
pub lines_of-stays : (x y : List ℕ) → (more : List (List ℕ)) × (lines_of (x ++ y) ≡ lines_of x ++ more)
lines_of-stays [] y = (lines_of y, refl)
lines_of-stays (b ∷ x) y = let later = lines_of-stays x y in by_test (eqb b 10) (lines_of x) (lines_of (x ++ y)) later.0 later.1
  where
    by_test : (t : Bool) (lines both later : List (List ℕ)) → both ≡ lines ++ later
        → (more : List (List ℕ)) × (cond t ([] ∷ both) (onto_line b both) ≡ cond t ([] ∷ lines) (onto_line b lines) ++ more)
    by_test true lines both later is = (later, rw is)
    by_test false [] both later is = (onto_line b later, rw is)
    by_test false (line ∷ lines) both later is = (later, rw is)

-- ---- the state by the lines so far

abbrev verdict : Bool → Bool → ℕ → HeadState
verdict many ends size = cond many crowded (cond ends (ended size) open_head)

abbrev shifted : ℕ → HeadState → HeadState
shifted at open_head = open_head
shifted at crowded = crowded
shifted at large = large
shifted at (ended size) = ended (at + size)

shifted-verdict : (at : ℕ) (many ends : Bool) (size : ℕ) → shifted at (verdict many ends size) ≡ verdict many ends (at + size)
shifted-verdict at true ends size = refl
shifted-verdict at false true size = refl
shifted-verdict at false false size = refl

same_verdict : {m n e f : Bool} {s t : ℕ} → m ≡ n → e ≡ f → s ≡ t → verdict m e s ≡ verdict n f t
same_verdict p q r = cc

ltb-suc : (k n : ℕ) → ltb (1 + k) (suc n) ≡ ltb k n
ltb-suc k n = grind (arith, nat_tests)

size_of-take : (k : ℕ) (line : List ℕ) (lines : List (List ℕ)) → size_of (take (1 + k + 1) (line ∷ lines)) ≡ length line + 1 + size_of (take (k + 1) lines)
size_of-take k line lines = let e : 1 + k + 1 ≡ suc (k + 1) = omega arith in rw e

-- what follows a line of the head
abbrev inside : ℕ → ℕ → ℕ → List (List ℕ) → HeadState
inside count at more lines = verdict (ltb 65 (count + more)) (ltb more (length lines)) (at + size_of (take (more + 1) lines))

-- once a line of the head has ended
pub state_on-inside : (lines : List (List ℕ)) (count at : ℕ) → 0 < count → count ≤ 65
    → state_on count at lines ≡ inside count at (prefix_len is_full_line lines) lines
state_on-inside [] count at some few = let e : ltb 65 (count + 0) ≡ false = grind (arith, nat_tests) in rw e
state_on-inside (line ∷ lines) count at some few =
    by_test (is_empty_line line) (eqb count 65) refl (state_on-inside lines (count + 1) (at + (length line + 1)))
  where
    by_test : (empty full : Bool) → eqb count 65 ≡ full
        → (0 < count + 1 → count + 1 ≤ 65 → state_on (count + 1) (at + (length line + 1)) lines
        ≡ inside (count + 1) (at + (length line + 1)) (prefix_len is_full_line lines) lines)
        → cond empty (cond (eqb count 0) (state_on 0 (at + (length line + 1)) lines) (ended (at + (length line + 1))))
        (cond full crowded (state_on (count + 1) (at + (length line + 1)) lines))
        ≡ inside count at (cond (not empty) (1 + prefix_len is_full_line lines) 0) (line ∷ lines)
    by_test true full is later =
        let a : eqb count 0 ≡ false = grind (arith, nat_tests) in
        let b : ltb 65 (count + 0) ≡ false = grind (arith, nat_tests) in
        let c : ltb 0 (suc (length lines)) ≡ true = grind (arith, nat_tests) in
        let d : at + (length line + 1 + 0) ≡ at + (length line + 1) = omega arith in
        rw (a, b, c, d)
    by_test false true is later =
        let b : ltb 65 (count + (1 + prefix_len is_full_line lines)) ≡ true = grind (arith, nat_tests) in
        rw b
    by_test false false is later =
        let k = prefix_len is_full_line lines in
        let few' : count + 1 ≤ 65 = grind (arith, nat_tests) in
        let a : count + 1 + k ≡ count + (1 + k) = omega arith in
        let c : at + (length line + 1) + size_of (take (k + 1) lines) ≡ at + size_of (take (1 + k + 1) (line ∷ lines)) = omega (arith, size_of-take k line lines) in
        later (omega arith) few' ∙ same_verdict (ap (ltb 65) a) (sym (ltb-suc k (length lines))) c

-- what a list of lines comes to, where the first `first` are empty and `more` are of the head
abbrev from_front : ℕ → ℕ → List (List ℕ) → HeadState
from_front first more lines = verdict (ltb 65 more) (ltb (first + more) (length lines)) (size_of (take (first + more + 1) lines))

drop-suc : (n : ℕ) (line : List ℕ) (lines : List (List ℕ)) → drop (1 + n) (line ∷ lines) ≡ drop n lines
drop-suc n line lines = let e : 1 + n ≡ suc n = omega arith in rw e

from_front-cons : (at n m : ℕ) (line : List ℕ) (lines : List (List ℕ))
    → shifted (at + (length line + 1)) (from_front n m lines) ≡ shifted at (from_front (1 + n) m (line ∷ lines))
from_front-cons at n m line lines =
    let e : 1 + n + m ≡ 1 + (n + m) = omega arith in
    let whole = sym (ap (λ (k : ℕ). ltb k (suc (length lines))) e ∙ ltb-suc (n + m) (length lines)) in
    let size : at + (length line + 1) + size_of (take (n + m + 1) lines) ≡ at + size_of (take (1 + n + m + 1) (line ∷ lines)) =
    omega (arith, size_of-take (n + m) line lines, ap (λ (k : ℕ). size_of (take (k + 1) (line ∷ lines))) e) in
    shifted-verdict (at + (length line + 1)) (ltb 65 m) (ltb (n + m) (length lines)) (size_of (take (n + m + 1) lines))
    ∙ same_verdict refl whole size
    ∙ sym (shifted-verdict at (ltb 65 m) (ltb (1 + n + m) (suc (length lines))) (size_of (take (1 + n + m + 1) (line ∷ lines))))

-- the state by all lines is the state by those to come, before any has come
pub state_on-start : (lines : List (List ℕ)) (at : ℕ) → state_on 0 at lines ≡ shifted at (state_of_lines lines)
unfolding state_of_lines
state_on-start [] at = refl
state_on-start (line ∷ lines) at = by_test (is_empty_line line) refl (state_on-start lines (at + (length line + 1)))
  where
    by_test : (empty : Bool) → is_empty_line line ≡ empty
        → state_on 0 (at + (length line + 1)) lines ≡ shifted (at + (length line + 1)) (state_of_lines lines)
        → cond empty (state_on 0 (at + (length line + 1)) lines) (state_on 1 (at + (length line + 1)) lines)
        ≡ shifted at (let first = cond empty (1 + prefix_len is_empty_line lines) 0 in
        from_front first (prefix_len is_full_line (drop first (line ∷ lines))) (line ∷ lines))
    by_test true is later =
        let n = prefix_len is_empty_line lines in
        rw (drop-suc n line lines) (later ∙ from_front-cons at n (prefix_len is_full_line (drop n lines)) line lines)
    by_test false is later =
        let k = prefix_len is_full_line lines in
        let zero : 0 + (1 + k) ≡ 1 + k = omega arith in
        let c : at + (length line + 1) + size_of (take (k + 1) lines) ≡ at + size_of (take (1 + k + 1) (line ∷ lines)) = omega (arith, size_of-take k line lines) in
        rw (is, shifted-verdict, zero) (state_on-inside lines 1 (at + (length line + 1)) (omega arith) (omega arith)
        ∙ same_verdict refl (sym (ltb-suc k (length lines))) c)

pub state_on-zero : (lines : List (List ℕ)) → state_on 0 0 lines ≡ state_of_lines lines
state_on-zero lines = state_on-start lines 0 ∙ none (state_of_lines lines)
  where
    none : (s : HeadState) → shifted 0 s ≡ s
    none open_head = refl
    none crowded = refl
    none large = refl
    none (ended size) = ap ended (omega arith)
