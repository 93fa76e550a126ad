-- One more line of a head that is looked at.
use Rattle.std.proofs.Common.{◌≡◌, ◌≢◌, ℕ, ◌+◌, ◌-◌, ◌<◌, ◌≤◌, Bool, true, false, cond, ◌&&◌, eqb, List, [], ◌∷◌, ◌++◌, length, get_or, take, drop, refl, sym, ap, ◌∙◌, arith, append_assoc, length-drop, length-append, get_or-take, get_or-drop}
use Rattle.std.specs.List.{All}
use Rattle.std.proofs.lemmas.List.{take-append-drop, drop-drop, drop_more, length-take-le, take_at}
use Rattle.std.proofs.lemmas.List.Elements.{All-from_get_or}
use Rattle.std.proofs.lemmas.List.Folds.{list_all-append}
use Rattle.std.proofs.lemmas.Bool.Decides.{nat_tests}
use Rattle.cds_http.specs.declared.lines.Step.TheVariants as step
use Rattle.cds_http.specs.Lines.{lines_of, size_of, is_empty_line, open_head, crowded, ended, state_of_lines}
use Rattle.cds_http.specs.Scan.{state_on, step_of, IsScanned}
use Rattle.cds_http.proofs.LineLemmas.{lines_of-line, lines_of-none, lines_of-append, state_on-zero}

pub size_of-append : (xs ys : List (List ℕ)) → size_of (xs ++ ys) ≡ size_of xs + size_of ys
size_of-append [] ys = omega arith
size_of-append (x ∷ xs) ys = omega (arith, size_of-append xs ys)

-- the line that was open and ends at `at`
abbrev pub line_up_to : List ℕ → ℕ → ℕ → List ℕ
line_up_to bytes line at = take (at - line) (drop line bytes)

pub length-line_up_to : (bytes : List ℕ) (line at : ℕ) → line ≤ at → at ≤ length bytes → length (line_up_to bytes line at) ≡ at - line
length-line_up_to bytes line at low high = length-take-le (at - line) (drop line bytes) (omega (arith, length-drop line bytes))

-- it has no line feed where none was seen
clean_line : (bytes : List ℕ) (line at : ℕ) → line ≤ at → at ≤ length bytes → ((k : ℕ) → line ≤ k → k < at → get_or bytes k 0 ≢ 10)
    → All (λ b. b ≢ 10) (line_up_to bytes line at)
clean_line bytes line at low high none =
    All-from_get_or (λ b. b ≢ 10) (line_up_to bytes line at) 0 λ i h.
    let inside : i < at - line = omega (arith, length-line_up_to bytes line at low high) in
    rw (get_or-take, get_or-drop) (none (line + i) (omega arith) (omega arith))

-- the bytes are whole lines, the line that ends at `at`, and the rest
split_at_feed : (bytes : List ℕ) (line at : ℕ) → line ≤ at → at < length bytes → get_or bytes at 0 ≡ 10
    → drop line bytes ≡ line_up_to bytes line at ++ 10 ∷ drop (at + 1) bytes
split_at_feed bytes line at low high feed =
    let place : line + (at - line) ≡ at = omega arith in
    sym (take-append-drop (at - line) (drop line bytes))
    ∙ ap (λ (rest : List ℕ). line_up_to bytes line at ++ rest) (drop-drop (at - line) line bytes ∙ ap (λ (n : ℕ). drop n bytes) place ∙ drop_more bytes at 0 high
    ∙ ap (λ (b : ℕ). b ∷ drop (at + 1) bytes) feed)

-- the lines of the bytes are those before, this one, and those after
pub lines_of-split : (bytes : List ℕ) (line at : ℕ) → line ≤ at → at < length bytes → get_or bytes at 0 ≡ 10
    → ((k : ℕ) → line ≤ k → k < at → get_or bytes k 0 ≢ 10) → size_of (lines_of (take line bytes)) ≡ line
    → lines_of bytes ≡ lines_of (take line bytes) ++ (line_up_to bytes line at ∷ lines_of (drop (at + 1) bytes))
lines_of-split bytes line at low high feed none whole =
    ap lines_of (sym (take-append-drop line bytes))
    ∙ lines_of-append (take line bytes) (drop line bytes) (whole ∙ sym (length-take-le line bytes (omega arith)))
    ∙ ap (λ (rest : List ℕ). lines_of (take line bytes) ++ lines_of rest) (split_at_feed bytes line at low high feed)
    ∙ ap (λ (rest : List (List ℕ)). lines_of (take line bytes) ++ rest)
    (lines_of-line (line_up_to bytes line at) (drop (at + 1) bytes) (clean_line bytes line at low (omega arith) none))

-- and the lines up to the line feed are those before, and this one
pub lines_of-up_to : (bytes : List ℕ) (line at : ℕ) → line ≤ at → at < length bytes → get_or bytes at 0 ≡ 10
    → ((k : ℕ) → line ≤ k → k < at → get_or bytes k 0 ≢ 10) → size_of (lines_of (take line bytes)) ≡ line
    → lines_of (take (at + 1) bytes) ≡ lines_of (take line bytes) ++ (line_up_to bytes line at ∷ [])
lines_of-up_to bytes line at low high feed none whole =
    let l = line_up_to bytes line at in
    let front = take line bytes ++ (l ++ 10 ∷ []) in
    let sizes : length front ≡ at + 1 = omega (arith, length-append (take line bytes) (l ++ 10 ∷ []), length-append l (10 ∷ []), length-take-le line bytes (omega arith), length-line_up_to bytes line at low (omega arith)) in
    let parts : bytes ≡ front ++ drop (at + 1) bytes = sym (take-append-drop line bytes) ∙ ap (λ (rest : List ℕ). take line bytes ++ rest) (split_at_feed bytes line at low high feed)
    ∙ simp append_assoc in
    let taken : take (at + 1) bytes ≡ front = ap (take (at + 1)) parts ∙ take_at front (drop (at + 1) bytes) (at + 1) sizes in
    ap lines_of taken
    ∙ lines_of-append (take line bytes) (l ++ 10 ∷ []) (whole ∙ sym (length-take-le line bytes (omega arith)))
    ∙ ap (λ (rest : List (List ℕ)). lines_of (take line bytes) ++ rest) (lines_of-line l [] (clean_line bytes line at low (omega arith) none))

-- where no line feed is left, the lines are those before
pub lines_of-rest : (bytes : List ℕ) (line : ℕ) → line ≤ length bytes
    → ((k : ℕ) → line ≤ k → k < length bytes → get_or bytes k 0 ≢ 10) → size_of (lines_of (take line bytes)) ≡ line
    → lines_of bytes ≡ lines_of (take line bytes) ++ []
lines_of-rest bytes line high none whole =
    ap lines_of (sym (take-append-drop line bytes))
    ∙ lines_of-append (take line bytes) (drop line bytes) (whole ∙ sym (length-take-le line bytes high))
    ∙ ap (λ (rest : List (List ℕ)). lines_of (take line bytes) ++ rest)
    (lines_of-none (drop line bytes) (All-from_get_or (λ b. b ≢ 10) (drop line bytes) 0 λ i h.
    rw get_or-drop (none (line + i) (omega arith) (omega (arith, length-drop line bytes)))))

-- what a line that passes makes of the state, and of whether all are empty
step_passes : (count at next : ℕ) (line : List ℕ) (lines : List (List ℕ)) → step_of count line ≡ step.Passed next
    → state_on count at (line ∷ lines) ≡ state_on next (at + (length line + 1)) lines
step_passes count at next line lines = by_test (is_empty_line line) (eqb count 0) (eqb count 65)
  where
    by_test : (empty none full : Bool)
        → cond empty (cond none (step.Passed 0) step.Ends) (cond full step.Crowds (step.Passed (count + 1))) ≡ step.Passed next
        → cond empty (cond none (state_on 0 (at + (length line + 1)) lines) (ended (at + (length line + 1))))
        (cond full crowded (state_on (count + 1) (at + (length line + 1)) lines))
        ≡ state_on next (at + (length line + 1)) lines
    by_test true true full is = let e : 0 ≡ next = cc in rw e
    by_test true false full is = absurd (cc)
    by_test false none true is = absurd (cc)
    by_test false none false is = let e : count + 1 ≡ next = cc in rw e

step_empties : (count next : ℕ) (line : List ℕ) → step_of count line ≡ step.Passed next → eqb count 0 && (is_empty_line line && true) ≡ eqb next 0
step_empties count next line = by_test (is_empty_line line) (eqb count 0) (eqb count 65) refl
  where
    by_test : (empty none full : Bool) → eqb count 0 ≡ none
        → cond empty (cond none (step.Passed 0) step.Ends) (cond full step.Crowds (step.Passed (count + 1))) ≡ step.Passed next
        → none && (empty && true) ≡ eqb next 0
    by_test true true full zero is = let e : 0 ≡ next = cc in ap (λ (n : ℕ). eqb n 0) e
    by_test true false full zero is = absurd (cc)
    by_test false none true zero is = absurd (cc)
    by_test false none false zero is =
        let e : count + 1 ≡ next = cc in
        let f : eqb next 0 ≡ false = grind (arith, nat_tests) in
        elim none as (λ (t : Bool). t && false ≡ eqb next 0) [ true ↦ sym f | false ↦ sym f ]

step_counts : (count next : ℕ) (line : List ℕ) → count ≤ 65 → step_of count line ≡ step.Passed next → next ≤ 65
step_counts count next line few = by_test (is_empty_line line) (eqb count 0) (eqb count 65) refl
  where
    by_test : (empty none full : Bool) → eqb count 65 ≡ full
        → cond empty (cond none (step.Passed 0) step.Ends) (cond full step.Crowds (step.Passed (count + 1))) ≡ step.Passed next
        → next ≤ 65
    by_test true true full is' is = let e : 0 ≡ next = cc in omega arith
    by_test true false full is' is = absurd (cc)
    by_test false none true is' is = absurd (cc)
    by_test false none false is' is = let e : count + 1 ≡ next = cc in grind (arith, nat_tests)

step_crowds : (count at : ℕ) (line : List ℕ) (lines : List (List ℕ)) → step_of count line ≡ step.Crowds → state_on count at (line ∷ lines) ≡ crowded
step_crowds count at line lines = by_test (is_empty_line line) (eqb count 0) (eqb count 65)
  where
    by_test : (empty none full : Bool)
        → cond empty (cond none (step.Passed 0) step.Ends) (cond full step.Crowds (step.Passed (count + 1))) ≡ step.Crowds
        → cond empty (cond none (state_on 0 (at + (length line + 1)) lines) (ended (at + (length line + 1))))
        (cond full crowded (state_on (count + 1) (at + (length line + 1)) lines)) ≡ crowded
    by_test true true full is = absurd (cc)
    by_test true false full is = absurd (cc)
    by_test false none true is = refl
    by_test false none false is = absurd (cc)

step_ends : (count at : ℕ) (line : List ℕ) (lines : List (List ℕ)) → step_of count line ≡ step.Ends
    → state_on count at (line ∷ lines) ≡ ended (at + (length line + 1))
step_ends count at line lines = by_test (is_empty_line line) (eqb count 0) (eqb count 65)
  where
    by_test : (empty none full : Bool)
        → cond empty (cond none (step.Passed 0) step.Ends) (cond full step.Crowds (step.Passed (count + 1))) ≡ step.Ends
        → cond empty (cond none (state_on 0 (at + (length line + 1)) lines) (ended (at + (length line + 1))))
        (cond full crowded (state_on (count + 1) (at + (length line + 1)) lines)) ≡ ended (at + (length line + 1))
    by_test true true full is = absurd (cc)
    by_test true false full is = refl
    by_test false none true is = absurd (cc)
    by_test false none false is = absurd (cc)

-- ---- for `look_on`

module _ (bytes : List ℕ) (line at count : ℕ) (known : IsScanned bytes (record { line = line; looked = at; count = count }))
    (high : at < length bytes) (feed : get_or bytes at 0 ≡ 10) where
  here : at + 1 ≡ line + (length (line_up_to bytes line at) + 1)
  here = omega (arith, length-line_up_to bytes line at known.ordered known.in_range)

  all_lines : lines_of bytes ≡ lines_of (take line bytes) ++ (line_up_to bytes line at ∷ lines_of (drop (at + 1) bytes))
  all_lines = lines_of-split bytes line at known.ordered high feed known.no_feed known.whole

  front_lines : lines_of (take (at + 1) bytes) ≡ lines_of (take line bytes) ++ (line_up_to bytes line at ∷ [])
  front_lines = lines_of-up_to bytes line at known.ordered high feed known.no_feed known.whole

  state_after : (lines : List (List ℕ))
      → state_of_lines (lines_of (take line bytes) ++ (line_up_to bytes line at ∷ lines)) ≡ state_on count line (line_up_to bytes line at ∷ lines)
  state_after lines = sym (state_on-zero _) ∙ known.state (line_up_to bytes line at ∷ lines)

  pub scanned_passes : (next : ℕ) → at < 16384 → step_of count (line_up_to bytes line at) ≡ step.Passed next
      → IsScanned bytes (record { line = at + 1; looked = at + 1; count = next })
  scanned_passes next in_head is = record {
    ordered = omega arith;
    in_range = omega arith;
    in_head = omega arith;
    whole = rw front_lines (omega (arith, size_of-append (lines_of (take line bytes)) (line_up_to bytes line at ∷ []), known.whole, here));
    state = λ lines. rw (front_lines, append_assoc) (known.state (line_up_to bytes line at ∷ lines) ∙ step_passes count line next (line_up_to bytes line at) lines is
        ∙ ap (λ (n : ℕ). state_on next n lines) (sym here));
    empty = rw (front_lines, list_all-append) (ap (λ (t : Bool). t && (is_empty_line (line_up_to bytes line at) && true)) known.empty
        ∙ step_empties count next (line_up_to bytes line at) is);
    count = step_counts count next (line_up_to bytes line at) known.count is;
    no_feed = λ k low below. absurd (omega arith);
  }

  pub found_crowded : step_of count (line_up_to bytes line at) ≡ step.Crowds → state_of_lines (lines_of bytes) ≡ crowded
  found_crowded is = ap state_of_lines all_lines ∙ state_after (lines_of (drop (at + 1) bytes)) ∙ step_crowds count line (line_up_to bytes line at) (lines_of (drop (at + 1) bytes)) is

  pub found_end : step_of count (line_up_to bytes line at) ≡ step.Ends → state_of_lines (lines_of bytes) ≡ ended (at + 1)
  found_end is = ap state_of_lines all_lines ∙ state_after (lines_of (drop (at + 1) bytes)) ∙ step_ends count line (line_up_to bytes line at) (lines_of (drop (at + 1) bytes)) is ∙ ap ended (sym here)

  pub found_front : step_of count (line_up_to bytes line at) ≡ step.Ends → state_of_lines (lines_of (take (at + 1) bytes)) ≡ ended (at + 1)
  found_front is = ap state_of_lines front_lines ∙ state_after [] ∙ step_ends count line (line_up_to bytes line at) [] is ∙ ap ended (sym here)

pub found_open : (bytes : List ℕ) (line count : ℕ) → IsScanned bytes (record { line = line; looked = length bytes; count = count })
    → state_of_lines (lines_of bytes) ≡ open_head
found_open bytes line count known =
    ap state_of_lines (lines_of-rest bytes line known.ordered known.no_feed known.whole)
    ∙ sym (state_on-zero (lines_of (take line bytes) ++ [])) ∙ known.state []
