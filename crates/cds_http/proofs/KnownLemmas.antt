-- What the lines and the head say of the front.
use Rattle.std.proofs.Common.{◌≡◌, ℕ, ◌<◌, ◌≤◌, inl, inr, cond, leb, min, List, length, take, Option, Result, Ok, Err, refl, sym, ap, ◌∙◌, subst, arith, length-take}
use Rattle.std.proofs.lemmas.List.{take-take, take_all, length-take-le}
use Rattle.std.proofs.lemmas.Bool.{cases_lt}
use Rattle.httparse.specs.Grammar.{RequestHead}
use Rattle.cds_http.specs.declared.head.Head.{Head}
use Rattle.cds_http.specs.declared.next.Fault.{Fault}
use Rattle.cds_http.specs.declared.next.Fault.TheVariants.{HeadTooLarge, TooManyFields}
use Rattle.cds_http.specs.Lines.{lines_of, HeadState, open_head, crowded, large, ended, state_of_lines, unless_open, head_state}
use Rattle.cds_http.specs.Front.{Front, waits, fails, heads, ReadsHead, judged, IsFrontIn, IsFront}
use Rattle.cds_http.specs.Scan.{JudgesHead}
use Rattle.cds_http.specs.Known.{IsHeadAt}
use Rattle.cds_http.proofs.StateLemmas.{head_state-short, head_state-long}

-- the first bytes, as many as there are
front_is : (bytes : List ℕ) (n : ℕ) → n ≡ min (length bytes) 16384 → take n bytes ≡ take 16384 bytes
front_is bytes n is =
    elim (cases_lt (length bytes) 16384) [
      | inl short ↦ take_all n bytes (omega arith) ∙ sym (take_all 16384 bytes (omega arith))
      | inr long ↦ let e : n ≡ 16384 = omega arith in ap (λ (k : ℕ). take k bytes) e
    ]

in_state : (place : ℕ) (bytes : List ℕ) (s : HeadState) (f : Front) → head_state bytes ≡ s → IsFrontIn place bytes s f → IsFront place bytes f
in_state place bytes s f is x = subst (λ (t : HeadState). IsFrontIn place bytes t f) (sym is) x

module _ (place : ℕ) (bytes : List ℕ) (n : ℕ) (cut : n ≡ min (length bytes) 16384) where
  pub front_waits : length bytes < 16384 → state_of_lines (lines_of (take n bytes)) ≡ open_head → IsFront place bytes waits
  front_waits short open' =
      let all : take n bytes ≡ bytes = take_all n bytes (omega arith) in
      in_state place bytes open_head waits (head_state-short bytes short ∙ ap (λ (b : List ℕ). state_of_lines (lines_of b)) (sym all) ∙ open') refl

  pub front_large : 16384 ≤ length bytes → state_of_lines (lines_of (take n bytes)) ≡ open_head → IsFront place bytes (fails HeadTooLarge)
  front_large long open' =
      in_state place bytes large (fails HeadTooLarge) (head_state-long bytes long
      ∙ ap (λ (b : List ℕ). unless_open large (state_of_lines (lines_of b))) (sym (front_is bytes n cut)) ∙ ap (unless_open large) open') refl

  decided_state : (s : HeadState) → ((other : HeadState) → unless_open other s ≡ s) → state_of_lines (lines_of (take n bytes)) ≡ s → head_state bytes ≡ s
  unfolding head_state
  decided_state s stays is =
      ap (λ (b : List ℕ). unless_open (cond (leb 16384 (length bytes)) large open_head) (state_of_lines (lines_of b))) (sym (front_is bytes n cut))
      ∙ ap (unless_open (cond (leb 16384 (length bytes)) large open_head)) is ∙ stays (cond (leb 16384 (length bytes)) large open_head)

  pub front_crowded : state_of_lines (lines_of (take n bytes)) ≡ crowded → IsFront place bytes (fails TooManyFields)
  front_crowded is = in_state place bytes crowded (fails TooManyFields) (decided_state crowded (λ other. refl) is) refl

  judged_front : (size : ℕ) (result : Result Head Fault) (f : Front) → size ≤ length (take n bytes) → state_of_lines (lines_of (take n bytes)) ≡ ended size
      → (read : Option RequestHead) → ReadsHead (take size (take n bytes)) read → judged place (length (take size (take n bytes))) read ≡ f → IsFront place bytes f
  judged_front size result f fits is read reads judges =
      let fewer : size ≤ n = omega (arith, length-take n bytes) in
      let same : take size (take n bytes) ≡ take size bytes = take-take size n bytes fewer in
      let long : length (take size (take n bytes)) ≡ size = length-take-le size (take n bytes) fits in
      in_state place bytes (ended size) f (decided_state (ended size) (λ other. refl) is)
      (read, subst (λ (b : List ℕ). ReadsHead b read) same reads, sym judges ∙ ap (λ (k : ℕ). judged place k read) long)

  pub front_head : (size : ℕ) (head : Head) → size ≤ length (take n bytes) → state_of_lines (lines_of (take n bytes)) ≡ ended size
      → JudgesHead place (take size (take n bytes)) (Ok head) → IsHeadAt place bytes head
  front_head size head fits is x = record {
    size = x.2.0;
    tree = x.2.1;
    body = x.2.2;
    is_front = judged_front size (Ok head) (heads x.2.0 x.2.1 x.2.2) fits is x.0 x.1 x.2.3;
    head_is = x.2.4;
  }

  pub front_fails : (size : ℕ) (f : Fault) → size ≤ length (take n bytes) → state_of_lines (lines_of (take n bytes)) ≡ ended size
      → JudgesHead place (take size (take n bytes)) (Err f) → IsFront place bytes (fails f)
  front_fails size f fits is x = judged_front size (Err f) (fails f) fits is x.0 x.1 x.2
