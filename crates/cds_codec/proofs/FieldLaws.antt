-- A field is read as it is written: what is read was written so, and what was written is read again, whatever stands
-- behind it.
use Rattle.std.proofs.Common.{◌≡◌, ◌∙◌, ℕ, zero, suc, ◌+◌, ◌^◌, ◌<◌, ◌≤◌, Bool, true, false, cond, ltb, List, [], ◌∷◌}
use Rattle.std.proofs.Common.{◌++◌, length, get_or, take, drop, Option, Some, None, refl, sym, ap, subst, append_assoc}
use Rattle.std.proofs.Common.{arith, inl, inr}
use Rattle.std.specs.Prelude.{All, ⊤, flat_map, ◌||◌}
use Rattle.std.specs.Int.{Width, w32, w64, byte_len, from_be_bytes, to_be_bytes}
use Rattle.std.proofs.lemmas.Bool.{cases_lt, ltb-false, le-ltb}
use Rattle.std.proofs.lemmas.Bool.Decides.{nat_tests}
use Rattle.std.proofs.lemmas.List.{take_at, drop_at, take-append-drop, length-append, length-take, get_or-drop}
use Rattle.std.proofs.lemmas.List.{get_or-take, get_or_past}
use Rattle.std.proofs.lemmas.List.Concat.{flat_map-cons}
use Rattle.std.proofs.lemmas.List.Elements.{All-nil, All-cons, All-head, All-tail}
use Rattle.std.proofs.lemmas.Nat.{be_bytes_4, be_bytes_8, from_be_bytes-to_be_bytes_4, from_be_bytes-to_be_bytes_8}
use Rattle.cds_base.specs.NameText.{IsName, is_name, name_of}
use Rattle.cds_sign.specs.Printed.{is_printed}
use Rattle.cds_sign.specs.Ranges.{IsWithin}
use Rattle.cds_codec.specs.Record.{bytes_of_32, bytes_of_64, bytes_of_few, bytes_of_name, bytes_of_text}
use Rattle.cds_codec.specs.Reading.{Taken, ◌>>=◌, both, through, counted, passing, within, byte_at, byte_in, bytes_at}
use Rattle.cds_codec.specs.Reading.{number_at, number_in, items_at, name_at, text_at, printed_at, whole}

-- each of them is below 256
abbrev pub IsBytes : List ℕ → Type 0
IsBytes bytes = (i : ℕ) → get_or bytes i 0 < 256

-- the bytes are a text, and then a rest
pub record Takes (bytes text rest : List ℕ) : Type 0 where
  pub parts : bytes ≡ text ++ rest
  pub rest_fits : IsBytes rest

-- a text, and then another one, and then a rest
pub Takes-then : (a x b y c : List ℕ) → Takes a x b → Takes b y c → Takes a (x ++ y) c
Takes-then a x b y c p q =
    record { parts = p.parts ∙ ap (λ (t : List ℕ). x ++ t) q.parts ∙ sym (append_assoc x y c); rest_fits = q.rest_fits }

-- the bytes behind some of them
IsBytes-drop : (n : ℕ) (bytes : List ℕ) → IsBytes bytes → IsBytes (drop n bytes)
IsBytes-drop n bytes h i = rw get_or-drop (h (n + i))

-- the first of them
IsBytes-take : (n : ℕ) (bytes : List ℕ) → IsBytes bytes → IsBytes (take n bytes)
IsBytes-take n bytes h i = elim (cases_lt i n) [
  | inl within ↦ rw (get_or-take n bytes i 0 within) (h i)
  | inr past ↦ rw (get_or_past (take n bytes) i 0 (omega (arith, length-take n bytes))) (omega arith)
]

-- all but the first
pub IsBytes-tail : (byte : ℕ) (bytes : List ℕ) → IsBytes (byte ∷ bytes) → IsBytes bytes
IsBytes-tail byte bytes h i = h (suc i)

-- a step that was taken had a value
pub then_some : {A B : Type 0} (o : Option A) (f : A → Option B) (y : B) → (o >>= f) ≡ Some y
    → (x : A) × (o ≡ Some x) × (f x ≡ Some y)
then_some (Some x) f y e = (x, refl, e)
then_some None f y e = absurd cc

-- a test that let a value through, where it refuses what passes
pub refused_some : {A : Type 0} (b : Bool) (o : Option A) (y : A) → cond b None o ≡ Some y → (b ≡ false) × (o ≡ Some y)
refused_some true o y e = absurd cc
refused_some false o y e = (refl, e)

-- a test that let a value through
pub passed_some : {A : Type 0} (b : Bool) (o : Option A) (y : A) → cond b o None ≡ Some y → (b ≡ true) × (o ≡ Some y)
passed_some true o y e = (refl, e)
passed_some false o y e = absurd cc

-- one value
pub some_is : {A : Type 0} (x y : A) → Some x ≡ Some y → x ≡ y
some_is x y e = cc

-- nothing follows
pub whole_some : {A : Type 0} (o : Taken A) (y : A) → whole o ≡ Some y → o ≡ Some (y, [])
whole_some None y e = absurd cc
whole_some (Some (x, [])) y e = ap (λ z. Some (z, [])) (some_is x y e)
whole_some (Some (x, byte ∷ rest)) y e = absurd cc

-- a width, with the limit of its numbers
pub record IsWide (w : Width) (limit : ℕ) : Type 0 where
  pub len : (n : ℕ) → length (to_be_bytes w n) ≡ byte_len w
  pub back : (bytes : List ℕ) → length bytes ≡ byte_len w → IsBytes bytes
      → to_be_bytes w (from_be_bytes w bytes) ≡ bytes
  pub again : (n : ℕ) → n < limit → from_be_bytes w (to_be_bytes w n) ≡ n
  pub below : (bytes : List ℕ) → IsBytes bytes → from_be_bytes w bytes < limit

pub wide32 : IsWide w32 (2 ^ 32)
wide32 = record {
  len = λ n. refl;
  back = λ bytes len fits. be_bytes_4 bytes _ len fits refl;
  again = λ n small. from_be_bytes-to_be_bytes_4 n small;
  below = λ bytes fits. omega (arith, fits 0, fits 1, fits 2, fits 3);
}

pub wide64 : IsWide w64 (2 ^ 64)
wide64 = record {
  len = λ n. refl;
  back = λ bytes len fits. be_bytes_8 bytes _ len fits refl;
  again = λ n small. from_be_bytes-to_be_bytes_8 n small;
  below = λ bytes fits. omega (arith, fits 0, fits 1, fits 2, fits 3, fits 4, fits 5, fits 6, fits 7);
}

-- so many bytes are read
pub bytes_takes : (count : ℕ) (bytes word rest : List ℕ) → IsBytes bytes → bytes_at count bytes ≡ Some (word, rest)
    → Takes bytes word rest × (length word ≡ count)
bytes_takes count bytes word rest fits e =
    let g = refused_some (ltb (length bytes) count) (Some (take count bytes, drop count bytes)) (word, rest) e in
    let long : count ≤ length bytes = ltb-false _ _ g.0 in
    let pair = some_is (take count bytes, drop count bytes) (word, rest) g.1 in
    let made : Takes bytes (take count bytes) (drop count bytes) =
    record { parts = sym (take-append-drop count bytes); rest_fits = IsBytes-drop count bytes fits } in
    subst (λ (p : List ℕ × List ℕ). Takes bytes p.0 p.1 × (length p.0 ≡ count)) pair
    (made, omega (arith, length-take count bytes))

pub bytes_again : (word rest : List ℕ) → bytes_at (length word) (word ++ rest) ≡ Some (word, rest)
bytes_again word rest =
    let long : ltb (length (word ++ rest)) (length word) ≡ false =
    le-ltb _ _ (omega (arith, length-append word rest)) in
    rw (long, take_at word rest (length word) refl, drop_at word rest (length word) refl) refl

-- a number is read
pub number_takes : (w : Width) (limit : ℕ) (wide : IsWide w limit) (bytes : List ℕ) (n : ℕ) (rest : List ℕ)
    → IsBytes bytes → number_at w bytes ≡ Some (n, rest) → Takes bytes (to_be_bytes w n) rest × (n < limit)
number_takes w limit wide bytes n rest fits e =
    let g = refused_some (ltb (length bytes) (byte_len w))
    (Some (from_be_bytes w (take (byte_len w) bytes), drop (byte_len w) bytes)) (n, rest) e in
    let long : byte_len w ≤ length bytes = ltb-false _ _ g.0 in
    let pair = some_is (from_be_bytes w (take (byte_len w) bytes), drop (byte_len w) bytes) (n, rest) g.1 in
    let first_fit = IsBytes-take (byte_len w) bytes fits in
    let front = wide.back (take (byte_len w) bytes) (omega (arith, length-take (byte_len w) bytes)) first_fit in
    let parts : bytes ≡ to_be_bytes w (from_be_bytes w (take (byte_len w) bytes)) ++ drop (byte_len w) bytes =
    rw front (sym (take-append-drop (byte_len w) bytes)) in
    let made : Takes bytes (to_be_bytes w (from_be_bytes w (take (byte_len w) bytes))) (drop (byte_len w) bytes) =
    record { parts = parts; rest_fits = IsBytes-drop (byte_len w) bytes fits } in
    subst (λ (p : ℕ × List ℕ). Takes bytes (to_be_bytes w p.0) p.1 × (p.0 < limit)) pair
    (made, wide.below (take (byte_len w) bytes) first_fit)

pub number_again : (w : Width) (limit : ℕ) (wide : IsWide w limit) (n : ℕ) (rest : List ℕ) → n < limit
    → number_at w (to_be_bytes w n ++ rest) ≡ Some (n, rest)
number_again w limit wide n rest small =
    let len = wide.len n in
    let long : ltb (length (to_be_bytes w n ++ rest)) (byte_len w) ≡ false =
    le-ltb _ _ (omega (arith, length-append (to_be_bytes w n) rest)) in
    rw (
      long,
      take_at (to_be_bytes w n) rest (byte_len w) len,
      drop_at (to_be_bytes w n) rest (byte_len w) len,
      wide.again n small,
    ) refl

-- a field that is read as it is written, where it is one
pub record IsField {A : Type 0} (read : List ℕ → Taken A) (spelled : A → List ℕ) (Is : A → Type 0) : Type 0 where
  pub takes : (bytes : List ℕ) (x : A) (rest : List ℕ) → IsBytes bytes → read bytes ≡ Some (x, rest)
      → Takes bytes (spelled x) rest × Is x
  pub again : (x : A) (rest : List ℕ) → Is x → read (spelled x ++ rest) ≡ Some (x, rest)

-- two fields, one behind the other
pub IsField-both : {A B : Type 0} {first : List ℕ → Taken A} {second : List ℕ → Taken B} {f : A → List ℕ}
    {g : B → List ℕ} {P : A → Type 0} {Q : B → Type 0}
    → IsField first f P → IsField second g Q → IsField (both first second) (λ x. f x.0 ++ g x.1) (λ x. P x.0 × Q x.1)
IsField-both {A} {B} {first} {second} {f} {g} {P} {Q} one two = record { takes = takes; again = again }
  where
    takes : (bytes : List ℕ) (x : A × B) (rest : List ℕ) → IsBytes bytes → both first second bytes ≡ Some (x, rest)
        → Takes bytes (f x.0 ++ g x.1) rest × (P x.0 × Q x.1)
    takes bytes x rest fits e =
        let a = then_some (first bytes) (λ a. second a.1 >>= λ b. Some ((a.0, b.0), b.1)) (x, rest) e in
        let b = then_some (second a.0.1) (λ b. Some ((a.0.0, b.0), b.1)) (x, rest) a.2 in
        let p = one.takes bytes a.0.0 a.0.1 fits a.1 in
        let q = two.takes a.0.1 b.0.0 b.0.1 p.0.rest_fits b.1 in
        let is = some_is ((a.0.0, b.0.0), b.0.1) (x, rest) b.2 in
        subst (λ (y : (A × B) × List ℕ). Takes bytes (f y.0.0 ++ g y.0.1) y.1 × (P y.0.0 × Q y.0.1)) is
        (Takes-then bytes (f a.0.0) a.0.1 (g b.0.0) b.0.1 p.0 q.0, (p.1, q.1))

    again : (x : A × B) (rest : List ℕ) → P x.0 × Q x.1 → both first second ((f x.0 ++ g x.1) ++ rest) ≡ Some (x, rest)
    again x rest is = ap (both first second) (append_assoc (f x.0) (g x.1) rest)
        ∙ rw (one.again x.0 (g x.1 ++ rest) is.0, two.again x.1 rest is.1) refl

-- a field by what it states
pub IsField-through : {A B : Type 0} {field : List ℕ → Taken A} {f : A → List ℕ} {P : A → Type 0} → IsField field f P
    → (state : A → Option B) (g : B → List ℕ) (Q : B → Type 0)
    → ((x : A) (y : B) → P x → state x ≡ Some y → (f x ≡ g y) × Q y)
    → ((y : B) → Q y → (x : A) × P x × (state x ≡ Some y) × (g y ≡ f x)) → IsField (through state field) g Q
IsField-through {A} {B} {field} {f} {P} one state g Q to back = record { takes = takes; again = again }
  where
    takes : (bytes : List ℕ) (y : B) (rest : List ℕ) → IsBytes bytes → through state field bytes ≡ Some (y, rest)
        → Takes bytes (g y) rest × Q y
    takes bytes y rest fits e =
        let a = then_some (field bytes) (λ a. state a.0 >>= λ b. Some (b, a.1)) (y, rest) e in
        let b = then_some (state a.0.0) (λ b. Some (b, a.0.1)) (y, rest) a.2 in
        let p = one.takes bytes a.0.0 a.0.1 fits a.1 in
        let q = to a.0.0 b.0 p.1 b.1 in
        let is = some_is (b.0, a.0.1) (y, rest) b.2 in
        let made : Takes bytes (g b.0) a.0.1 = subst (λ (t : List ℕ). Takes bytes t a.0.1) q.0 p.0 in
        subst (λ (z : B × List ℕ). Takes bytes (g z.0) z.1 × Q z.0) is (made, q.1)

    again : (y : B) (rest : List ℕ) → Q y → through state field (g y ++ rest) ≡ Some (y, rest)
    again y rest is =
        let x = back y is in
        ap (λ (t : List ℕ). through state field (t ++ rest)) x.3 ∙ rw (one.again x.0 rest x.1, x.2) refl

-- a field that is told otherwise
pub IsField-as : {A : Type 0} {field : List ℕ → Taken A} {f : A → List ℕ} {P : A → Type 0} → IsField field f P
    → (Q : A → Type 0) → ((x : A) → P x → Q x) → ((x : A) → Q x → P x) → IsField field f Q
IsField-as one Q to back = record {
  takes = λ bytes x rest fits e. let p = one.takes bytes x rest fits e in (p.0, to x p.1);
  again = λ x rest is. one.again x rest (back x is);
}

-- a field that passes a test
pub IsField-passing : {A : Type 0} {field : List ℕ → Taken A} {f : A → List ℕ} {P : A → Type 0} → IsField field f P
    → (test : A → Bool) → IsField (through (passing test) field) f (λ x. P x × (test x ≡ true))
IsField-passing {A} {field} {f} {P} one test = IsField-through one (passing test) f (λ x. P x × (test x ≡ true)) to back
  where
    to : (x y : A) → P x → passing test x ≡ Some y → (f x ≡ f y) × (P y × (test y ≡ true))
    to x y p e =
        let passed = passed_some (test x) (Some x) y e in
        let is = some_is x y passed.1 in
        (ap f is, subst (λ (z : A). P z × (test z ≡ true)) is (p, passed.0))

    back : (y : A) → P y × (test y ≡ true) → (x : A) × P x × (passing test x ≡ Some y) × (f y ≡ f x)
    back y q = (y, q.0, rw q.1 refl, refl)

-- so many of something behind their number
pub IsField-counted : {A : Type 0} {count : List ℕ → Taken ℕ} {c : ℕ → List ℕ} {P : ℕ → Type 0}
    {items : ℕ → List ℕ → Taken A} {f : A → List ℕ} → IsField count c P → (Q : A → Type 0) (size : A → ℕ)
    → ((n : ℕ) → IsField (items n) f (λ x. Q x × (size x ≡ n)))
    → IsField (counted count items) (λ x. c (size x) ++ f x) (λ x. P (size x) × Q x)
IsField-counted {A} {count} {c} {P} {items} {f} one Q size each = record { takes = takes; again = again }
  where
    takes : (bytes : List ℕ) (x : A) (rest : List ℕ) → IsBytes bytes → counted count items bytes ≡ Some (x, rest)
        → Takes bytes (c (size x) ++ f x) rest × (P (size x) × Q x)
    takes bytes x rest fits e =
        let n = then_some (count bytes) (λ n. items n.0 n.1) (x, rest) e in
        let p = one.takes bytes n.0.0 n.0.1 fits n.1 in
        let q = (each n.0.0).takes n.0.1 x rest p.0.rest_fits n.2 in
        let pair : Takes bytes (c n.0.0 ++ f x) rest × (P n.0.0 × Q x) =
        (Takes-then bytes (c n.0.0) n.0.1 (f x) rest p.0 q.0, (p.1, q.1.0)) in
        subst (λ (k : ℕ). Takes bytes (c k ++ f x) rest × (P k × Q x)) (sym q.1.1) pair

    again : (x : A) (rest : List ℕ) → P (size x) × Q x
        → counted count items ((c (size x) ++ f x) ++ rest) ≡ Some (x, rest)
    again x rest is = ap (counted count items) (append_assoc (c (size x)) (f x) rest)
        ∙ rw (one.again (size x) (f x ++ rest) is.0, (each (size x)).again x rest (is.1, refl)) refl

-- items are read
items_takes : {A : Type 0} {item : List ℕ → Taken A} {f : A → List ℕ} {P : A → Type 0} → IsField item f P
    → (n : ℕ) (bytes : List ℕ) (xs : List A) (rest : List ℕ) → IsBytes bytes → items_at item n bytes ≡ Some (xs, rest)
    → Takes bytes (flat_map f xs) rest × (All P xs × (length xs ≡ n))
unfolding items_at
items_takes {A} {item} {f} {P} one zero bytes xs rest fits e =
    let made : Takes bytes [] bytes = record { parts = refl; rest_fits = fits } in
    subst (λ (p : List A × List ℕ). Takes bytes (flat_map f p.0) p.1 × (All P p.0 × (length p.0 ≡ zero)))
    (some_is ([], bytes) (xs, rest) e) (made, (All-nil P, refl))
items_takes {A} {item} {f} {P} one (suc n) bytes xs rest fits e =
    let a = then_some (item bytes) (λ a. items_at item n a.1 >>= λ more. Some (a.0 ∷ more.0, more.1)) (xs, rest) e in
    let b = then_some (items_at item n a.0.1) (λ more. Some (a.0.0 ∷ more.0, more.1)) (xs, rest) a.2 in
    let p = one.takes bytes a.0.0 a.0.1 fits a.1 in
    let q = items_takes one n a.0.1 b.0.0 b.0.1 p.0.rest_fits b.1 in
    let joined = Takes-then bytes (f a.0.0) a.0.1 (flat_map f b.0.0) b.0.1 p.0 q.0 in
    let made : Takes bytes (flat_map f (a.0.0 ∷ b.0.0)) b.0.1 =
    subst (λ (t : List ℕ). Takes bytes t b.0.1) (sym (flat_map-cons f a.0.0 b.0.0)) joined in
    subst (λ (y : List A × List ℕ). Takes bytes (flat_map f y.0) y.1 × (All P y.0 × (length y.0 ≡ suc n)))
    (some_is (a.0.0 ∷ b.0.0, b.0.1) (xs, rest) b.2) (made, (All-cons P a.0.0 b.0.0 p.1 q.1.0, ap suc q.1.1))

items_again : {A : Type 0} {item : List ℕ → Taken A} {f : A → List ℕ} {P : A → Type 0} → IsField item f P
    → (xs : List A) (rest : List ℕ) → All P xs → items_at item (length xs) (flat_map f xs ++ rest) ≡ Some (xs, rest)
unfolding items_at
items_again one [] rest all = refl
items_again {A} {item} {f} {P} one (x ∷ xs) rest all =
    let here = one.again x (flat_map f xs ++ rest) (All-head P x xs all) in
    let later = items_again one xs rest (All-tail P x xs all) in
    let regrouped = ap (λ (t : List ℕ). t ++ rest) (flat_map-cons f x xs) ∙ append_assoc (f x) (flat_map f xs) rest in
    ap (items_at item (suc (length xs))) regrouped ∙ rw (here, later) refl

pub IsField-items : {A : Type 0} {item : List ℕ → Taken A} {f : A → List ℕ} {P : A → Type 0} → IsField item f P
    → (n : ℕ) → IsField (items_at item n) (flat_map f) (λ xs. All P xs × (length xs ≡ n))
IsField-items {A} {item} {f} {P} one n = record {
  takes = items_takes one n;
  again = λ xs rest is. subst (λ (k : ℕ). items_at item k (flat_map f xs ++ rest) ≡ Some (xs, rest)) is.1
      (items_again one xs rest is.0);
}

-- a byte, so many bytes, and a number of some width
pub IsField-byte : IsField byte_at (λ n. n ∷ []) (λ n. n < 256)
IsField-byte = record { takes = takes; again = λ n rest is. refl }
  where
    takes : (bytes : List ℕ) (n : ℕ) (rest : List ℕ) → IsBytes bytes → byte_at bytes ≡ Some (n, rest)
        → Takes bytes (n ∷ []) rest × (n < 256)
    takes [] n rest fits e = absurd cc
    takes (byte ∷ bytes) n rest fits e =
        let made : Takes (byte ∷ bytes) (byte ∷ []) bytes =
        record { parts = refl; rest_fits = IsBytes-tail byte bytes fits } in
        let below : byte < 256 = fits 0 in
        subst (λ (p : ℕ × List ℕ). Takes (byte ∷ bytes) (p.0 ∷ []) p.1 × (p.0 < 256))
        (some_is (byte, bytes) (n, rest) e) (made, below)

IsField-bytes : (count : ℕ) → IsField (bytes_at count) (λ word. word) (λ word. ⊤ × (length word ≡ count))
IsField-bytes count = record {
  takes = λ bytes word rest fits e. let p = bytes_takes count bytes word rest fits e in (p.0, (tt, p.1));
  again = λ word rest is. subst (λ (k : ℕ). bytes_at k (word ++ rest) ≡ Some (word, rest)) is.1 (bytes_again word rest);
}

pub IsField-32 : IsField (number_at w32) bytes_of_32 (λ n. n < 2 ^ 32)
unfolding bytes_of_32
IsField-32 = record { takes = number_takes w32 (2 ^ 32) wide32; again = number_again w32 (2 ^ 32) wide32 }

pub IsField-64 : IsField (number_at w64) bytes_of_64 (λ n. n < 2 ^ 64)
unfolding bytes_of_64
IsField-64 = record { takes = number_takes w64 (2 ^ 64) wide64; again = number_again w64 (2 ^ 64) wide64 }

-- a number within its range
IsField-within : {field : List ℕ → Taken ℕ} {f : ℕ → List ℕ} (limit : ℕ) → IsField field f (λ n. n < limit)
    → (least most : ℕ) → most < limit → IsField (through (within least most) field) f (IsWithin least most)
IsField-within {field} {f} limit one least most fits =
    IsField-through one (within least most) f (IsWithin least most) to back
  where
    to : (x y : ℕ) → x < limit → within least most x ≡ Some y → (f x ≡ f y) × IsWithin least most y
    to x y p e =
        let passed = refused_some (ltb x least || ltb most x) (Some x) y e in
        let made : IsWithin least most x =
        record { enough = grind (arith, nat_tests, passed.0); few = grind (arith, nat_tests, passed.0) } in
        let is = some_is x y passed.1 in
        (ap f is, subst (λ (n : ℕ). IsWithin least most n) is made)

    back : (y : ℕ) → IsWithin least most y → (x : ℕ) × (x < limit) × (within least most x ≡ Some y) × (f y ≡ f x)
    back y q =
        let low = q.enough in
        let high = q.few in
        let test : (ltb y least || ltb most y) ≡ false = grind (arith, nat_tests) in
        (y, omega arith, rw test refl, refl)

pub IsField-byte_in : (least most : ℕ) → most < 256 → IsField (byte_in least most) (λ n. n ∷ []) (IsWithin least most)
unfolding byte_in
IsField-byte_in = IsField-within 256 IsField-byte

pub IsField-32_in : (least most : ℕ) → most < 2 ^ 32
    → IsField (number_in w32 least most) bytes_of_32 (IsWithin least most)
unfolding number_in
IsField-32_in = IsField-within (2 ^ 32) IsField-32

pub IsField-64_in : (least most : ℕ) → most < 2 ^ 64
    → IsField (number_in w64 least most) bytes_of_64 (IsWithin least most)
unfolding number_in
IsField-64_in = IsField-within (2 ^ 64) IsField-64

-- few items behind the byte of their number
pub IsField-few : {A : Type 0} {item : List ℕ → Taken A} {f : A → List ℕ} {P : A → Type 0} → IsField item f P
    → (least most : ℕ) → most < 256
    → IsField (counted (byte_in least most) (items_at item)) (bytes_of_few f)
    (λ xs. IsWithin least most (length xs) × All P xs)
IsField-few {A} {item} {f} {P} one least most fits =
    IsField-counted (IsField-byte_in least most fits) (All P) length (IsField-items one)

-- a name is read
name-short : (name : List ℕ) → IsName name → length name < 256
name-short name h = grind (arith, nat_tests, h)

pub IsField-name : IsField name_at bytes_of_name IsName
unfolding name_at
IsField-name = IsField-through (IsField-counted IsField-byte (λ word. ⊤) length IsField-bytes) name_of bytes_of_name
    IsName to back
  where
    to : (x y : List ℕ) → (length x < 256) × ⊤ → name_of x ≡ Some y → (length x ∷ x ≡ bytes_of_name y) × IsName y
    to x y p e =
        let passed = passed_some (is_name x) (Some x) y e in
        let is = some_is x y passed.1 in
        (ap bytes_of_name is, subst IsName is passed.0)

    back : (y : List ℕ) → IsName y
        → (x : List ℕ) × ((length x < 256) × ⊤) × (name_of x ≡ Some y) × (bytes_of_name y ≡ length x ∷ x)
    back y q = (y, (name-short y q, tt), rw q refl, refl)

-- a text is read
pub IsField-text : IsField text_at bytes_of_text (λ text. length text < 2 ^ 32)
unfolding text_at
IsField-text = IsField-as (IsField-counted IsField-32 (λ text. ⊤) length IsField-bytes) (λ text. length text < 2 ^ 32)
    (λ text p. p.0) (λ text q. (q, tt))

-- what the name or the meaning of a signature may be is read
printed-short : (text : List ℕ) → is_printed text ≡ true → length text < 2 ^ 32
printed-short text h = grind (arith, nat_tests, h)

pub IsField-printed : IsField printed_at bytes_of_text (λ text. is_printed text ≡ true)
unfolding printed_at
IsField-printed = IsField-as (IsField-passing IsField-text is_printed) (λ text. is_printed text ≡ true) (λ text p. p.1)
    (λ text q. (printed-short text q, q))
