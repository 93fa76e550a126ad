-- How long records are.
use Rattle.std.proofs.Common.{◌≡◌, ℕ, zero, suc, ◌+◌, ◌*◌, ◌-◌, ◌/◌, ◌^◌, ◌<◌, ◌≤◌, ℤ, pos, ◌-ℤ◌, List, [], ◌∷◌, ◌++◌}
use Rattle.std.proofs.Common.{length, Bool, true, false, cond, unsigned_abs, int_lt, refl, arith, inl, inr}
use Rattle.std.specs.Prelude.{All, flat_map, map}
use Rattle.std.proofs.lemmas.Int.{ints}
use Rattle.std.proofs.lemmas.Bool.{cases_lt}
use Rattle.std.proofs.lemmas.Bool.Decides.{nat_tests}
use Rattle.std.proofs.Math.Nat.{mul-suc, pow-succ'}
use Rattle.std.proofs.lemmas.List.{length-append, length-map}
use Rattle.std.proofs.lemmas.List.Concat.{flat_map-cons}
use Rattle.std.proofs.lemmas.List.Elements.{All-nil, All-cons, All-head, All-tail}
use Rattle.cds_base.specs.EventParts.{event_parts}
use Rattle.cds_base.specs.EventRange.{is_event}
use Rattle.cds_base.specs.NameText.{IsName}
use Rattle.cds_base.specs.declared.event.Event.{Event}
use Rattle.cds_sign.specs.Printed.{is_printed}
use Rattle.cds_sign.specs.Ranges.{IsChange, IsRow}
use Rattle.cds_sign.specs.RowKinds.{kind_number}
use Rattle.cds_sign.specs.declared.command.Change.{Change}
use Rattle.cds_sign.specs.declared.command.Change.TheVariants as changes
use Rattle.cds_sign.specs.declared.row.Row.{Row}
use Rattle.cds_codec.specs.Record.{bytes_of_32, bytes_of_64, byte_of_used, bytes_of_amount, bytes_of_event}
use Rattle.cds_codec.specs.Record.{bytes_of_few, bytes_of_many, bytes_of_name, bytes_of_row, bytes_of_text}
use Rattle.cds_codec.specs.Record.{bytes_of_three, carried_text, changed, fields_of, record_of}
use Rattle.cds_codec.specs.declared.format.TheConstants.{FORMAT}
use Rattle.cds_trace.specs.Differences.{folded, bytes_behind, bytes_of_differences}
use Rattle.cds_trace.specs.SevenBits.{seven_bits, seven_bits_within}
use Rattle.cds_trace.specs.Signal.{IsSample}

-- seven bits fewer
shift : (n p : ℕ) → n < 128 * p → n / 128 < p
shift n p few = omega arith

-- a number takes at most as many bytes as it has sevens of bits
within-length : (k turns n : ℕ) → n < 128 ^ suc k → length (seven_bits_within turns n) ≤ suc k
within-length k zero n few = omega arith
within-length zero (suc turns) n few =
    let low : n < 128 = few in
    let one : length (seven_bits_within (suc turns) n) ≡ 1 = grind (arith, nat_tests) in
    omega arith
within-length (suc k) (suc turns) n few = elim (cases_lt n 128) [
  | inl low ↦ let one : length (seven_bits_within (suc turns) n) ≡ 1 = grind (arith, nat_tests) in omega arith
  | inr high ↦
      let rest = within-length k turns (n / 128) (shift n (128 ^ suc k) (rw (pow-succ' 128 (suc k)) at few)) in
      let more : length (seven_bits_within (suc turns) n) ≡ 1 + length (seven_bits_within turns (n / 128)) =
      grind (arith, nat_tests) in
      omega arith
]

-- a difference as a whole number is at most twice as great
folded-most : (d : ℤ) → folded d ≤ 2 * unsigned_abs d
folded-most d = by_sign (int_lt d (pos 0))
  where
    by_sign : (b : Bool) → cond b (2 * unsigned_abs d - 1) (2 * unsigned_abs d) ≤ 2 * unsigned_abs d
    by_sign true = omega arith
    by_sign false = omega arith

-- a difference of two samples is less than five sevens of bits
pub difference-few : (sample before : ℤ) → IsSample sample → IsSample before → folded (sample -ℤ before) < 128 ^ 5
difference-few sample before here there =
    let low = here.least in
    let high = here.greatest in
    let low' = there.least in
    let high' = there.greatest in
    let size : unsigned_abs (sample -ℤ before) ≤ 200000000 = omega (arith, ints) in
    let most = folded-most (sample -ℤ before) in
    omega arith

-- so it takes at most five bytes
difference-length : (sample before : ℤ) → IsSample sample → IsSample before
    → length (seven_bits (folded (sample -ℤ before))) ≤ 5
unfolding seven_bits
difference-length sample before here there =
    let n = folded (sample -ℤ before) in
    within-length 4 n n (difference-few sample before here there)

-- and all differences five each
behind-length : (before : ℤ) (samples : List ℤ) → IsSample before → All IsSample samples
    → length (bytes_behind before samples) ≤ 5 * length samples
unfolding bytes_behind
behind-length before [] first all = omega arith
behind-length before (sample ∷ rest) first all =
    let here = All-head IsSample sample rest all in
    let one = difference-length sample before here first in
    let more = behind-length sample rest here (All-tail IsSample sample rest all) in
    omega (arith, length-append (seven_bits (folded (sample -ℤ before))) (bytes_behind sample rest))

-- the samples of a trace
samples-length : (samples : List ℤ) → All IsSample samples
    → length (bytes_of_differences samples) ≤ 8 + 5 * length samples
samples-length [] all = omega arith
samples-length (first ∷ rest) all =
    omega (arith, behind-length first rest (All-head IsSample first rest all) (All-tail IsSample first rest all))

-- a number
length-32 : (n : ℕ) → length (bytes_of_32 n) ≡ 4
unfolding bytes_of_32
length-32 n = refl

length-64 : (n : ℕ) → length (bytes_of_64 n) ≡ 8
unfolding bytes_of_64
length-64 n = refl

-- items take at most so many bytes each
items-length : {A : Type 0} (f : A → List ℕ) (P : A → Type 0) (most : ℕ) → ((x : A) → P x → length (f x) ≤ most)
    → (xs : List A) → All P xs → length (flat_map f xs) ≤ most * length xs
items-length f P most each [] all = omega arith
items-length f P most each (x ∷ xs) all =
    let one = each x (All-head P x xs all) in
    let more = items-length f P most each xs (All-tail P x xs all) in
    let both = length-append (f x) (flat_map f xs) in
    rw (flat_map-cons f x xs) (omega (arith, both, mul-suc most (length xs)))

name-length : (name : List ℕ) → IsName name → length name ≤ 64
name-length name h = grind (arith, nat_tests, h)

printed-length : (text : List ℕ) → is_printed text ≡ true → length text ≤ 64
printed-length text h = grind (arith, nat_tests, h)

name-bytes : (name : List ℕ) → IsName name → length (bytes_of_name name) ≤ 65
name-bytes name h = omega (arith, name-length name h)

amount-bytes : (amount : List ℕ × ℕ) → IsName amount.0 → length (bytes_of_amount amount) ≤ 69
amount-bytes amount h =
    omega (
      arith,
      name-length amount.0 h,
      length-32 amount.1,
      length-append (bytes_of_name amount.0) (bytes_of_32 amount.1),
    )

three-bytes : (a b c : ℕ) → length (bytes_of_three a b c) ≡ 12
three-bytes a b c = simp (length-append, length-32) refl

event-bytes : (event : Event) → length (bytes_of_event event) ≤ 13
event-bytes event =
    let parts = event_parts event in
    omega (arith, three-bytes parts.first parts.second parts.third)

-- the amounts of a row
pub names-amounts : (amounts : List (List ℕ × ℕ)) → All IsName (map (λ a. a.0) amounts) → All (λ a. IsName a.0) amounts
names-amounts [] all = All-nil (λ a. IsName a.0)
names-amounts (a ∷ amounts) all =
    All-cons (λ a. IsName a.0) a amounts (All-head IsName a.0 (map (λ a. a.0) amounts) all)
    (names-amounts amounts (All-tail IsName a.0 (map (λ a. a.0) amounts) all))

-- the parts of a row
row-sum : (label : List ℕ) (kind : ℕ) (trace version : List ℕ) (used : ℕ) (u v amounts events : List ℕ)
    → length label ≤ 65 → length trace ≤ 65 → length version ≡ 4 → length u ≡ 4 → length v ≡ 4
    → length amounts ≤ 2209 → length events ≤ 833
    → length (label ++ kind ∷ trace ++ version ++ used ∷ u ++ v ++ amounts ++ events) ≤ 3186
row-sum label kind trace version used u v amounts events l t a b c m e = simp length-append (omega arith)

row-bytes : (row : Row) → IsRow row → length (bytes_of_row row) ≤ 3186
row-bytes row h =
    let few = h.amounts.few in
    let many = h.events.count in
    let amounts = items-length bytes_of_amount (λ a. IsName a.0) 69 amount-bytes row.amounts
    (names-amounts row.amounts h.amounts.each) in
    let events = items-length bytes_of_event (λ e. is_event e ≡ true) 13 (λ e k. event-bytes e) row.events
    h.events.each in
    let named = length-map row.amounts (λ a. a.0) in
    row-sum (bytes_of_name row.label) (kind_number row.kind) (bytes_of_name row.trace) (bytes_of_32 row.version)
    (byte_of_used row.used) (bytes_of_32 row.u) (bytes_of_32 row.v)
    (bytes_of_few bytes_of_amount row.amounts) (bytes_of_few bytes_of_event row.events) (name-bytes row.label h.label)
    (name-bytes row.trace h.trace) (length-32 row.version) (length-32 row.u) (length-32 row.v) (omega arith)
    (omega arith)

-- the parts of a sequence, of events that are put, and of a signature
five-sum : (a b c d e : List ℕ) → length (a ++ b ++ c ++ d ++ e) ≡ length a + length b + length c + length d + length e
five-sum a b c d e = simp length-append (omega arith)

six-sum : (a b c d e f : List ℕ)
    → length ((a ++ b ++ c) ++ (d ++ e ++ f)) ≡ length a + length b + length c + length d + length e + length f
six-sum a b c d e f = simp length-append (omega arith)

-- the fields of a change
fields-length : (change : Change) → IsChange change
    → length (fields_of FORMAT change) ≤ length (carried_text change) + 4000000
fields-length (changes.Trace name signal) h =
    let few = h.1.few in
    omega (
      arith,
      samples-length signal.samples h.1.samples,
      few,
      length-64 signal.period,
      length-append (bytes_of_64 signal.period) (bytes_of_differences signal.samples),
    )
fields-length (changes.Draft name text) h =
    omega (arith, length-32 (length text), length-append (bytes_of_32 (length text)) text)
fields-length (changes.Freeze name version) h = omega (arith, length-32 version)
fields-length (changes.Sequence name edition method version standards rows) h =
    let few = h.0.standards.count.few in
    let many = h.1.count.few in
    let one = name-bytes method h.0.method in
    let names = items-length bytes_of_name IsName 65 name-bytes standards h.0.standards.each in
    let all = items-length bytes_of_row IsRow 3186 row-bytes rows h.1.each in
    let sum = five-sum (bytes_of_64 edition) (bytes_of_name method) (bytes_of_32 version)
    (bytes_of_few bytes_of_name standards) (bytes_of_many bytes_of_row rows) in
    let whole = length-append (bytes_of_32 (length rows)) (flat_map bytes_of_row rows) in
    omega (arith, length-32, length-64)
fields-length (changes.Events name edition row events) h =
    let many = h.0.events.count in
    let all = items-length bytes_of_event (λ e. is_event e ≡ true) 13 (λ e k. event-bytes e) events h.0.events.each in
    let sum = length-append (bytes_of_64 edition ++ bytes_of_32 row) (bytes_of_few bytes_of_event events) in
    let front = length-append (bytes_of_64 edition) (bytes_of_32 row) in
    omega (arith, length-32, length-64)
fields-length (changes.Rebind name edition version) h =
    omega (arith, length-append (bytes_of_64 edition) (bytes_of_32 version), length-32, length-64)
fields-length (changes.Sign sequence number basis moment name meaning text) h =
    let one = printed-length name h.name in
    let two = printed-length meaning h.meaning in
    let sum = six-sum (bytes_of_32 number) (bytes_of_64 basis) (bytes_of_64 moment) (bytes_of_text name)
    (bytes_of_text meaning) (bytes_of_text text) in
    let a = length-append (bytes_of_32 (length name)) name in
    let b = length-append (bytes_of_32 (length meaning)) meaning in
    let c = length-append (bytes_of_32 (length text)) text in
    omega (arith, length-32, length-64)

pub changed-name : (change : Change) → IsChange change → IsName (changed change)
changed-name (changes.Trace name signal) h = h.0
changed-name (changes.Draft name text) h = h.0
changed-name (changes.Freeze name version) h = h.0
changed-name (changes.Sequence name edition method version standards rows) h = h.0.name
changed-name (changes.Events name edition row events) h = h.0.name
changed-name (changes.Rebind name edition version) h = h.name
changed-name (changes.Sign sequence number basis moment name meaning text) h = h.sequence

-- a record is at most 2^22 bytes longer than the text that the change carries
pub record-length : (change : Change) → IsChange change
    → length (record_of change) ≤ length (carried_text change) + 2 ^ 22
record-length change h =
    let name = name-length (changed change) (changed-name change h) in
    let fields = fields-length change h in
    let sum = length-append (changed change) (fields_of FORMAT change) in
    omega arith
