-- What is decided of a head stays decided, however the bytes go on.
use Rattle.std.proofs.Common.{◌≡◌, ℕ, ◌+◌, ◌-◌, ◌<◌, ◌≤◌, ◌⊎◌, inl, inr, Bool, true, false, cond, ◌&&◌, eqb, leb, List, [], ◌∷◌, ◌++◌, length, take, refl, sym, ap, ◌∙◌, subst, arith, length-append, length-take}
use Rattle.std.specs.List.{list_all}
use Rattle.std.proofs.lemmas.List.{take-append-le, take_all}
use Rattle.std.proofs.Math.Seq.{take-append-add}
use Rattle.std.proofs.lemmas.Bool.{cases_lt}
use Rattle.std.proofs.lemmas.Bool.Decides.{nat_tests}
use Rattle.cds_http.specs.Lines.{lines_of, size_of, is_empty_line, HeadState, open_head, crowded, large, ended, state_of_lines, unless_open, head_state}
use Rattle.cds_http.specs.Scan.{state_on}
use Rattle.cds_http.proofs.LineLemmas.{lines_of-stays, size_of-lines_of, state_on-zero}

-- more lines change a state that is open, and no other
pub state_on-stays : (lines more : List (List ℕ)) (count at : ℕ) → (state_on count at (lines ++ more) ≡ state_on count at lines) ⊎ (state_on count at lines ≡ open_head)
state_on-stays [] more count at = inr refl
state_on-stays (line ∷ lines) more count at =
    by_test (is_empty_line line) (eqb count 0) (eqb count 65) (state_on-stays lines more 0 (at + (length line + 1))) (state_on-stays lines more (count + 1) (at + (length line + 1)))
  where
    -- `a` and `b` are what the lines after this one come to, with and without the further ones
    by_test : (empty none full : Bool) → {a a' b b' : HeadState} → (a' ≡ a) ⊎ (a ≡ open_head) → (b' ≡ b) ⊎ (b ≡ open_head)
        → (cond empty (cond none a' (ended (at + (length line + 1)))) (cond full crowded b') ≡ cond empty (cond none a (ended (at + (length line + 1)))) (cond full crowded b))
        ⊎ (cond empty (cond none a (ended (at + (length line + 1)))) (cond full crowded b) ≡ open_head)
    by_test true true full x y = x
    by_test true false full x y = inl refl
    by_test false none true x y = inl refl
    by_test false none false x y = y

pub state_of_lines-stays : (lines more : List (List ℕ)) → (state_of_lines (lines ++ more) ≡ state_of_lines lines) ⊎ (state_of_lines lines ≡ open_head)
state_of_lines-stays lines more =
    elim (state_on-stays lines more 0 0) [
      | inl same ↦ inl (sym (state_on-zero (lines ++ more)) ∙ same ∙ state_on-zero lines)
      | inr still ↦ inr (sym (state_on-zero lines) ∙ still)
    ]

-- ---- the state of the head at the front

pub head_state-short : (bytes : List ℕ) → length bytes < 16384 → head_state bytes ≡ state_of_lines (lines_of bytes)
unfolding head_state
head_state-short bytes short =
    let a : leb 16384 (length bytes) ≡ false = grind (arith, nat_tests) in
    rw (a, take_all 16384 bytes (omega arith)) (same (state_of_lines (lines_of bytes)))
  where
    same : (s : HeadState) → unless_open open_head s ≡ s
    same open_head = refl
    same crowded = refl
    same large = refl
    same (ended size) = refl

pub head_state-long : (bytes : List ℕ) → 16384 ≤ length bytes → head_state bytes ≡ unless_open large (state_of_lines (lines_of (take 16384 bytes)))
unfolding head_state
head_state-long bytes long = let a : leb 16384 (length bytes) ≡ true = grind (arith, nat_tests) in rw a

-- the state by the lines of a front, and of the whole
from_lines : (x more : List ℕ) → (state_of_lines (lines_of (x ++ more)) ≡ state_of_lines (lines_of x)) ⊎ (state_of_lines (lines_of x) ≡ open_head)
from_lines x more =
    let later = lines_of-stays x more in
    subst (λ (l : List (List ℕ)). (state_of_lines l ≡ state_of_lines (lines_of x)) ⊎ (state_of_lines (lines_of x) ≡ open_head)) (sym later.1)
    (state_of_lines-stays (lines_of x) later.0)

unless_open_decided : (s : HeadState) → (unless_open large s ≡ s) ⊎ (s ≡ open_head)
unless_open_decided open_head = inr refl
unless_open_decided crowded = inl refl
unless_open_decided large = inl refl
unless_open_decided (ended size) = inl refl

take_over : (xs ys : List ℕ) (n : ℕ) → length xs ≤ n → take n (xs ++ ys) ≡ xs ++ take (n - length xs) ys
take_over xs ys n low =
    let e : length xs + (n - length xs) ≡ n = omega arith in
    ap (λ (k : ℕ). take k (xs ++ ys)) (sym e) ∙ take-append-add xs ys (n - length xs)

-- a decided state of the head stays, however the bytes go on
pub head_state-stays : (bytes more : List ℕ) → (head_state (bytes ++ more) ≡ head_state bytes) ⊎ (head_state bytes ≡ open_head)
head_state-stays bytes more =
    elim (cases_lt (length bytes) 16384) [
      | inl short ↦ elim (from_lines bytes (take (16384 - length bytes) more)) [
        | inl same ↦ elim (cases_lt (length (bytes ++ more)) 16384) [
          | inl below ↦
              let all : take (16384 - length bytes) more ≡ more = take_all _ more (omega (arith, length-append bytes more)) in
              inl (head_state-short (bytes ++ more) below ∙ ap (λ (m : List ℕ). state_of_lines (lines_of (bytes ++ m))) (sym all) ∙ same ∙ sym (head_state-short bytes short))
          | inr long ↦
              let cut : take 16384 (bytes ++ more) ≡ bytes ++ take (16384 - length bytes) more = take_over bytes more 16384 (omega arith) in
              let front = head_state-long (bytes ++ more) long ∙ ap (λ (b : List ℕ). unless_open large (state_of_lines (lines_of b))) cut ∙ ap (unless_open large) same in
              elim (unless_open_decided (state_of_lines (lines_of bytes))) [
                | inl decided ↦ inl (front ∙ decided ∙ sym (head_state-short bytes short))
                | inr still ↦ inr (head_state-short bytes short ∙ still)
              ]
        ]
        | inr still ↦ inr (head_state-short bytes short ∙ still)
      ]
      | inr long ↦ inl (
          head_state-long (bytes ++ more) (omega (arith, length-append bytes more))
          ∙ ap (λ (b : List ℕ). unless_open large (state_of_lines (lines_of b))) (take-append-le 16384 bytes more long)
          ∙ sym (head_state-long bytes long)
          )
    ]

-- ---- where a head ends

state_on-size : (lines : List (List ℕ)) (count at n : ℕ) → state_on count at lines ≡ ended n → n ≤ at + size_of lines
state_on-size [] count at n is = absurd (cc)
state_on-size (line ∷ lines) count at n is =
    by_test (is_empty_line line) (eqb count 0) (eqb count 65) (state_on-size lines 0 (at + (length line + 1)) n) (state_on-size lines (count + 1) (at + (length line + 1)) n) is
  where
    by_test : (empty none full : Bool) → {a b : HeadState}
        → (a ≡ ended n → n ≤ at + (length line + 1) + size_of lines) → (b ≡ ended n → n ≤ at + (length line + 1) + size_of lines)
        → cond empty (cond none a (ended (at + (length line + 1)))) (cond full crowded b) ≡ ended n → n ≤ at + (length line + 1 + size_of lines)
    by_test true true full x y is = omega (arith, x is)
    by_test true false full x y is = let e : at + (length line + 1) ≡ n = cc in omega arith
    by_test false none true x y is = absurd (cc)
    by_test false none false x y is = omega (arith, y is)

pub state_of_lines-size : (bytes : List ℕ) (n : ℕ) → state_of_lines (lines_of bytes) ≡ ended n → n ≤ length bytes
state_of_lines-size bytes n is = omega (arith, state_on-size (lines_of bytes) 0 0 n (state_on-zero (lines_of bytes) ∙ is), size_of-lines_of bytes)

pub unless_open-ended : (other s : HeadState) (n : ℕ) → (other ≡ ended n → ⊥) → unless_open other s ≡ ended n → s ≡ ended n
unless_open-ended other open_head n never is = absurd (never is)
unless_open-ended other crowded n never is = is
unless_open-ended other large n never is = is
unless_open-ended other (ended size) n never is = is

large_ends_not : (t : Bool) (n : ℕ) → cond t large open_head ≡ ended n → ⊥
large_ends_not true n is = cc
large_ends_not false n is = cc

-- the lines of the first bytes end it
pub head_state-ended : (bytes : List ℕ) (n : ℕ) → head_state bytes ≡ ended n → state_of_lines (lines_of (take 16384 bytes)) ≡ ended n
unfolding head_state
head_state-ended bytes n is =
    unless_open-ended (cond (leb 16384 (length bytes)) large open_head) (state_of_lines (lines_of (take 16384 bytes))) n (large_ends_not (leb 16384 (length bytes)) n) is

-- a head that has ended ends within the bytes
pub head_state-size : (bytes : List ℕ) (n : ℕ) → head_state bytes ≡ ended n → (n ≤ length bytes) × (n ≤ 16384)
head_state-size bytes n is =
    let front = state_of_lines-size (take 16384 bytes) n (head_state-ended bytes n is) in
    (omega (arith, front, length-take 16384 bytes), omega (arith, front, length-take 16384 bytes))

-- a head that has ended has a line that isn't empty
pub ended_not_empty : (lines : List (List ℕ)) (at n : ℕ) → state_on 0 at lines ≡ ended n → list_all is_empty_line lines ≡ false
ended_not_empty [] at n is = absurd (cc)
ended_not_empty (line ∷ lines) at n is = by_test (is_empty_line line) (ended_not_empty lines (at + (length line + 1)) n) is
  where
    by_test : (empty : Bool) → (state_on 0 (at + (length line + 1)) lines ≡ ended n → list_all is_empty_line lines ≡ false)
        → cond empty (state_on 0 (at + (length line + 1)) lines) (state_on 1 (at + (length line + 1)) lines) ≡ ended n
        → empty && list_all is_empty_line lines ≡ false
    by_test true later is = later is
    by_test false later is = refl
