-- What was judged gives back what was asked.
use Rattle.std.proofs.Common.{◌≡◌, ◌∙◌, ℕ, ℤ, pos, negsuc, ◌+◌, Bool, true, false, List, [], ◌∷◌, ◌++◌, length, map, Result, Ok, Err, refl, sym, ap, ap₂, subst, append_assoc, append-nil}
use Rattle.std.specs.Prelude.{All, is_some, ◌&&◌, ◌||◌, ◌==◌, nat_le, if◌then◌else◌}
use Rattle.std.proofs.lemmas.Bool.{leb-true, and_parts}
use Rattle.std.proofs.lemmas.List.Elements.{All-nil, All-cons}
use Rattle.cds_base.specs.Answers.{◌>>=◌}
use Rattle.cds_sign.specs.Ranges.{IsWithin}
use Rattle.cds_sign.specs.declared.asked.AskedRow.{AskedRow}
use Rattle.cds_base.specs.declared.limits.TheConstants.{MOST_AMOUNT}
use Rattle.cds_sign.specs.declared.row.Row.{Row}
use Rattle.cds_sign.specs.declared.row.RowKind.{RowKind}
use Rattle.cds_book.specs.Judged.{must, each_judged, standard_judged, standards_judged, amount_judged, amounts_judged, trace_judged, label_judged, row_judged, rows_judged}
use Rattle.cds_book.specs.Plan.{asked_of}
use Rattle.cds_book.specs.Inputs.{is_standard}
use Rattle.cds_book.specs.Tables.{TablesState, sequence_of}
use Rattle.std.specs.Str.{bytes_eq}
use Rattle.cds_book.specs.declared.error.PlanError.{PlanError}
use Rattle.cds_book.specs.declared.error.PlanError.TheVariants.{NoSequence, BadAmount}

-- what follows a part that was judged
pub record Judges {X Y : Type 0} (r : Result X PlanError) (f : X → Result Y PlanError) (y : Y) : Type 0 where
  pub value : X
  pub judged : r ≡ Ok value
  pub rest : f value ≡ Ok y

pub judges : {X Y : Type 0} (r : Result X PlanError) (f : X → Result Y PlanError) (y : Y) → (r >>= f) ≡ Ok y → Judges r f y
judges (Ok x) f y is = record { value = x; judged = refl; rest = is }
judges (Err e) f y is = cc

-- values of equal answers are equal
pub ok-same : {X : Type 0} (x y : X) → (let a : Result X PlanError = Ok x in let b : Result X PlanError = Ok y in a ≡ b) → x ≡ y
ok-same x y e = cc

-- what all items came to: each gives back its item, and keeps what is known of it
pub record Gave {A B : Type 0} (back : B → A) (Q : B → Type 0) (done : List B) (xs : List A) (r : List B) : Type 0 where
  pub made : List B
  pub is : r ≡ done ++ made
  pub backs : map back made ≡ xs
  pub each : All Q made

module _ {A B : Type 0} (judge : List B → A → Result B PlanError) (back : B → A) (Q : B → Type 0) (one : (done : List B) (x : A) (y : B) → judge done x ≡ Ok y → (back y ≡ x) × Q y) where
  pub gave : (done : List B) (xs : List A) (r : List B) → each_judged judge done xs ≡ Ok r → Gave back Q done xs r
  unfolding each_judged
  gave done [] r is = record { made = []; is = let same : done ≡ r = cc in sym same ∙ sym (append-nil done); backs = refl; each = All-nil Q }
  gave done (x ∷ xs) r is =
      let j = judges (judge done x) (λ y. each_judged judge (done ++ y ∷ []) xs) r is in
      let rest = gave (done ++ j.value ∷ []) xs r j.rest in
      let here = one done x j.value j.judged in
      record {
        made = j.value ∷ rest.made;
        is = rest.is ∙ append_assoc done (j.value ∷ []) rest.made;
        backs = ap₂ (λ a more. a ∷ more) here.0 rest.backs;
        each = All-cons Q j.value rest.made here.1 rest.each;
      }

-- where nothing was done before
pub whole : {A B : Type 0} (back : B → A) (Q : B → Type 0) (xs : List A) (r : List B) → Gave back Q [] xs r → (map back r ≡ xs) × All Q r
whole back Q xs r g = let same : r ≡ g.made = g.is in subst (λ m. (map back m ≡ xs) × All Q m) (sym same) (g.backs, g.each)

map-self : {A : Type 0} (xs : List A) → map (λ x. x) xs ≡ xs
map-self [] = refl
map-self (x ∷ xs) = ap (λ ys. x ∷ ys) (map-self xs)

-- the listed sequences are those that were asked
pub standards-same : (t : TablesState) (name : List ℕ) (standards listed : List (List ℕ)) → standards_judged t name standards ≡ Ok listed → listed ≡ standards
unfolding standards_judged standard_judged
standards-same t name standards listed is =
    let g = whole (λ n. n) (λ _. Unit {0}) standards listed (gave (λ _. standard_judged t name) (λ n. n) (λ _. Unit {0}) (λ done x y e. let j = judges (must (NoSequence x) (bytes_eq x name || is_some (sequence_of t x))) (λ _. Ok x) y e in (sym (ok-same x y j.rest), tt)) [] standards listed is) in
    sym (map-self listed) ∙ g.0

-- an amount that was judged
abbrev pub amount_asked : List ℕ × ℕ → List ℕ × ℤ
amount_asked a = (a.0, pos a.1)

abbrev pub AmountWithin : List ℕ × ℕ → Type 0
AmountWithin a = IsWithin 1 MOST_AMOUNT a.1

amount-one : (number : ℕ) (x : List ℕ × ℤ) (y : List ℕ × ℕ) → amount_judged number x ≡ Ok y → (amount_asked y ≡ x) × AmountWithin y
unfolding amount_judged
amount-one number (name, negsuc n) y is = cc
amount-one number (name, pos n) y is = by_test (nat_le 1 n && nat_le n MOST_AMOUNT) refl is
  where
    by_test : (b : Bool) → (nat_le 1 n && nat_le n MOST_AMOUNT) ≡ b → (if b then Ok (name, n) else Err (BadAmount number)) ≡ Ok y → (amount_asked y ≡ (name, pos n)) × AmountWithin y
    by_test true within is =
        let same : (name, n) ≡ y = cc in
        let parts = and_parts _ _ within in
        subst (λ (a : List ℕ × ℕ). (amount_asked a ≡ (name, pos n)) × AmountWithin a) same (refl, record { enough = leb-true 1 n parts.0; few = leb-true n MOST_AMOUNT parts.1 })
    by_test false within is = cc

pub amounts-asked : (number : ℕ) (kind : RowKind) (asked : List (List ℕ × ℤ)) (amounts : List (List ℕ × ℕ)) → amounts_judged number kind asked ≡ Ok amounts → (map amount_asked amounts ≡ asked) × All AmountWithin amounts
unfolding amounts_judged
amounts-asked number kind asked amounts is =
    let j = judges (must (BadAmount number) (is_standard kind || (length asked == 0))) (λ _. each_judged (λ _. amount_judged number) [] asked) amounts is in
    whole amount_asked AmountWithin asked amounts (gave (λ _. amount_judged number) amount_asked AmountWithin (λ done x y e. amount-one number x y e) [] asked amounts j.rest)

-- a row that was judged
abbrev pub RowAmounts : Row → Type 0
RowAmounts r = All AmountWithin r.amounts

row-one : (t : TablesState) (done : List Row) (x : AskedRow) (y : Row) → row_judged t done x ≡ Ok y → (asked_of y ≡ x) × RowAmounts y
unfolding row_judged
row-one t done x y is =
    let last : List (List ℕ × ℕ) → Result Row PlanError = λ amounts. Ok (record { label = x.label; kind = x.kind; trace = x.trace; version = x.version; used = x.used; u = x.u; v = x.v; amounts = amounts; events = x.events }) in
    let given : Result (List (List ℕ × ℕ)) PlanError = amounts_judged (length done + 1) x.kind x.amounts in
    let one = judges (trace_judged t x.trace x.version) (λ _. label_judged done x.label >>= λ _. given >>= last) y is in
    let two = judges (label_judged done x.label) (λ _. given >>= last) y one.rest in
    let three = judges given last y two.rest in
    let known = amounts-asked (length done + 1) x.kind x.amounts three.value three.judged in
    let made : Row = record { label = x.label; kind = x.kind; trace = x.trace; version = x.version; used = x.used; u = x.u; v = x.v; amounts = three.value; events = x.events } in
    let same : made ≡ y = ok-same made y three.rest in
    subst (λ (r : Row). (asked_of r ≡ x) × RowAmounts r) same (ap (λ given. record x { amounts = given }) known.0, known.1)

-- the rows give back those that were asked, and their amounts are in their range
pub rows-asked : (t : TablesState) (asked : List AskedRow) (rows : List Row) → rows_judged t asked ≡ Ok rows → (map asked_of rows ≡ asked) × All RowAmounts rows
unfolding rows_judged
rows-asked t asked rows is = whole asked_of RowAmounts asked rows (gave (row_judged t) asked_of RowAmounts (row-one t) [] asked rows is)
