-- The rules are kept where bases rise after a change.
use Rattle.std.proofs.Common.{◌≡◌, ◌∙◌, ℕ, ◌+◌, ◌≤◌, Bool, true, false, List, [], ◌∷◌, length, map, Option, Some, None, option_map, refl, sym, ap, ap₂, subst, arith}
use Rattle.std.specs.Prelude.{All, IsSome, not, if◌then◌else◌}
use Rattle.std.specs.List.{sum_by}
use Rattle.std.specs.Option.{option_map_or}
use Rattle.std.proofs.lemmas.List.{length-map}
use Rattle.std.proofs.lemmas.List.Elements.{All-nil, All-cons, All-head, All-tail, All-map}
use Rattle.std.proofs.lemmas.List.Sums.{sum_by-cons}
use Rattle.std.proofs.lemmas.Simd.{map-map}
use Rattle.cds_base.specs.Named.{AreRising}
use Rattle.cds_base.proofs.NamedLaws.{named-map, named-All, All-placed, AreRising-placed, sum_by-placed}
use Rattle.cds_sign.specs.declared.command.Change.{Change}
use Rattle.cds_sign.specs.declared.inputs.Inputs.{Inputs}
use Rattle.cds_sign.specs.declared.sequence.Sequence.{Sequence}
use Rattle.cds_sign.specs.declared.signed.Signed.{Signed}
use Rattle.cds_book.specs.Inputs.{bindings_of, inputs_by}
use Rattle.cds_book.specs.Judged.{edition_of}
use Rattle.cds_book.specs.Kept.{IsTables, IsSequenceEntry, IsBound, AreBound, AreThere, AreListed, changes_in_all, trace_versions_in_all, method_versions_in_all, rows_in_all, signed_bytes_in_all}
use Rattle.cds_book.specs.Plan.{applied, carried, raised, inputs_differ, are_others, basis_of, with_sequence}
use Rattle.cds_book.specs.Tables.{NamedSequence, TablesState, sequence_named, sequence_of, signals_of, signatures_of, texts_of}
use Rattle.cds_book.specs.declared.limits.TheConstants.{MOST_SEQUENCES, MOST_ROWS_IN_ALL, MOST_SIGNED_BYTES}
use Rattle.cds_book.proofs.GrownLaws.{Grows, AreBound-grown, AreListed-grown}
use Rattle.cds_book.proofs.SameLaws.{same_inputs-Decides}
use Rattle.cds_book.proofs.SequenceLaws.{sequence_name}

-- what holds of each under one rule holds under another that it implies
pub All-mono : {X : Type 0} (P Q : X → Type 0) → ((x : X) → P x → Q x) → (xs : List X) → All P xs → All Q xs
All-mono P Q more [] each = All-nil Q
All-mono P Q more (x ∷ xs) each = All-cons Q x xs (more x (All-head P x xs each)) (All-mono P Q more xs (All-tail P x xs each))

-- a sum over what is made of each
pub sum_by-mapped : {X Y : Type 0} (f : Y → ℕ) (g : X → Y) (h : X → ℕ) → ((x : X) → f (g x) ≡ h x) → (xs : List X) → sum_by f (map g xs) ≡ sum_by h xs
sum_by-mapped f g h same [] = refl
sum_by-mapped f g h same (x ∷ xs) = sum_by-cons f (g x) (map g xs) ∙ ap₂ (λ a b. a + b) (same x) (sum_by-mapped f g h same xs) ∙ sym (sum_by-cons h x xs)

-- by how much a basis rises
abbrev pub rise : Bool → ℕ
rise b = if b then 1 else 0

-- a number is no less than itself
no_less : (n : ℕ) → n ≤ n
no_less n = omega arith

-- a basis that rises is still one
entry-raised : (b : Bool) (e : NamedSequence) → IsSequenceEntry e → IsSequenceEntry (raised b e)
entry-raised b e h = record {
  name = h.name;
  first_edition = h.first_edition;
  edition = h.edition;
  first_basis = let first = h.first_basis in omega (arith, first);
  method = h.method;
  rows = h.rows;
  standards = h.standards;
  few_signed = h.few_signed;
  signed = h.signed;
  numbers = h.numbers;
}

module _ (t : TablesState) (kept : IsTables t) (d : List ℕ → Bool) where
  -- the tables with each basis raised as told
  abbrev raised_tables : TablesState
  raised_tables = record t { sequences = map (λ (e : NamedSequence). raised (d e.name) e) t.sequences }

  same_changes : changes_in_all raised_tables ≡ changes_in_all t
  same_changes = ap (λ n. n + (trace_versions_in_all t.traces + method_versions_in_all t.methods)) (sum_by-mapped (λ (e : NamedSequence). e.sequence.edition) (λ (e : NamedSequence). raised (d e.name) e) (λ (e : NamedSequence). e.sequence.edition) (λ e. refl) t.sequences)

  -- each sequence is still there, and no version is gone
  there-raised : (name : List ℕ) → IsSome (sequence_of t name) → IsSome (sequence_of raised_tables name)
  unfolding sequence_of
  there-raised name there = subst (λ (o : Option NamedSequence). IsSome (option_map (λ (e : NamedSequence). e.sequence) o)) (sym (named-map (λ (e : NamedSequence). raised (d e.name) e) sequence_name t.sequences name)) (by_found (sequence_named t name) there)
    where
      by_found : (found : Option NamedSequence) → IsSome (option_map (λ (e : NamedSequence). e.sequence) found) → IsSome (option_map (λ (e : NamedSequence). e.sequence) (option_map (λ (e : NamedSequence). raised (d e.name) e) found))
      by_found None there = there
      by_found (Some e) there = refl

  Grows-raised : Grows t raised_tables
  unfolding signals_of texts_of
  Grows-raised = record { traces = λ name. no_less (length (signals_of t name)); methods = λ name. no_less (length (texts_of t name)); sequences = there-raised }

  pub IsTables-raised : All (λ (e : NamedSequence). e.sequence.basis + rise (d e.name) ≤ changes_in_all t) t.sequences → IsTables raised_tables
  IsTables-raised bases =
      let g : NamedSequence → NamedSequence = λ e. raised (d e.name) e in
      let ks = kept.sequences in
      record {
        traces = kept.traces;
        methods = kept.methods;
        sequences = record {
          names = subst AreRising (sym (map-map sequence_name g t.sequences)) ks.names;
          each = All-map IsSequenceEntry g t.sequences
              (All-mono IsSequenceEntry (λ e. IsSequenceEntry (g e)) (λ e h. entry-raised (d e.name) e h) t.sequences ks.each);
          few = let same = length-map t.sequences g in let few = ks.few in omega (arith, same, few);
          few_rows = let same = sum_by-mapped (λ (e : NamedSequence). length e.sequence.rows) g (λ (e : NamedSequence). length e.sequence.rows) (λ e. refl) t.sequences in let few = ks.few_rows in omega (arith, same, few);
          few_bytes = let same = sum_by-mapped (λ (e : NamedSequence). sum_by (λ (s : Signed). length s.text) e.signed) g (λ (e : NamedSequence). sum_by (λ (s : Signed). length s.text) e.signed) (λ e. refl) t.sequences in let few = ks.few_bytes in omega (arith, same, few);
        };
        bases = All-map (λ (e : NamedSequence). e.sequence.basis ≤ changes_in_all raised_tables) g t.sequences (All-mono (λ (e : NamedSequence). e.sequence.basis + rise (d e.name) ≤ changes_in_all t) (λ (e : NamedSequence). (g e).sequence.basis ≤ changes_in_all raised_tables) (λ e h. omega (arith, h, same_changes)) t.sequences bases);
        bound = All-map (λ (e : NamedSequence). IsBound raised_tables e.sequence) g t.sequences (All-mono (λ (e : NamedSequence). IsBound raised_tables e.sequence) (λ (e : NamedSequence). IsBound raised_tables (g e).sequence) (λ e h. record { method = h.method; rows = h.rows }) t.sequences
            (AreBound-grown t raised_tables Grows-raised t.sequences kept.bound));
        listed = All-map (λ (e : NamedSequence). AreThere raised_tables e.sequence.standards) g t.sequences (AreListed-grown t raised_tables Grows-raised t.sequences kept.listed);
      }

-- a rise is by one at most
pub rise-few : (b : Bool) → rise b ≤ 1
rise-few true = omega arith
rise-few false = omega arith

-- the rules after a change that makes changes one more
pub IsTables-rises : (t : TablesState) (c : Change) → IsTables (carried t c) → All (λ (e : NamedSequence). e.sequence.basis + rise (inputs_differ t (carried t c) e.name) ≤ changes_in_all (carried t c)) (carried t c).sequences → IsTables (applied t c)
unfolding applied
IsTables-rises t c kept bases = IsTables-raised (carried t c) kept (inputs_differ t (carried t c)) bases

pub one_more : (d : NamedSequence → Bool) (n m : ℕ) (es : List NamedSequence) → n + 1 ≤ m → All (λ (e : NamedSequence). e.sequence.basis ≤ n) es → All (λ (e : NamedSequence). e.sequence.basis + rise (d e) ≤ m) es
one_more d n m es grown bases = All-mono (λ (e : NamedSequence). e.sequence.basis ≤ n) (λ (e : NamedSequence). e.sequence.basis + rise (d e) ≤ m) (λ e h. omega (arith, h, grown, rise-few (d e))) es bases

-- no more changes than before
pub no_more : (n m : ℕ) (es : List NamedSequence) → n ≤ m → All (λ (e : NamedSequence). e.sequence.basis ≤ n) es → All (λ (e : NamedSequence). e.sequence.basis ≤ m) es
no_more n m es grown bases = All-mono (λ (e : NamedSequence). e.sequence.basis ≤ n) (λ (e : NamedSequence). e.sequence.basis ≤ m) (λ e h. omega (arith, h, grown)) es bases

-- inputs don't differ from themselves
pub others-self : (o : Option Inputs) → are_others o o ≡ false
others-self None = refl
others-self (Some i) = ap not ((same_inputs-Decides i i).1 refl)

-- inputs don't differ where bindings are resolved alike
pub differs-none : (t s : TablesState) → bindings_of t ≡ bindings_of s → (name : List ℕ) → inputs_differ t s name ≡ false
unfolding inputs_differ
differs-none t s same name = ap (λ b. are_others (inputs_by (bindings_of t) name) (inputs_by b name)) (sym same) ∙ others-self (inputs_by (bindings_of t) name)

entry_eq : (e : NamedSequence) (n : ℕ) → e.sequence.basis ≡ n → let r : NamedSequence = record e { sequence = record e.sequence { basis = n } } in r ≡ e
entry_eq e n same = ap (λ b. record e { sequence = record e.sequence { basis = b } }) (sym same)

raised-false : (b : Bool) (e : NamedSequence) → b ≡ false → raised b e ≡ e
raised-false b e isnt = let zero : e.sequence.basis ≡ e.sequence.basis + rise b = rw isnt (omega arith) in entry_eq e (e.sequence.basis + rise b) zero

raised-none : (d : List ℕ → Bool) → ((n : List ℕ) → d n ≡ false) → (es : List NamedSequence) → map (λ (e : NamedSequence). raised (d e.name) e) es ≡ es
raised-none d isnt [] = refl
raised-none d isnt (e ∷ es) = ap₂ (λ x xs. x ∷ xs) (raised-false (d e.name) e (isnt e.name)) (raised-none d isnt es)

-- where bindings are resolved alike, no basis rises
pub applied-same : (t : TablesState) (c : Change) → bindings_of t ≡ bindings_of (carried t c) → applied t c ≡ carried t c
unfolding applied
applied-same t c same = ap (λ es. record (carried t c) { sequences = es }) (raised-none (inputs_differ t (carried t c)) (differs-none t (carried t c) same) (carried t c).sequences)

-- the edition of what stands under a name
pub edition_there : (t : TablesState) (name : List ℕ) → option_map_or (λ (e : NamedSequence). e.sequence.edition) (sequence_named t name) 0 ≡ edition_of t name
unfolding sequence_of edition_of
edition_there t name = by_found (sequence_named t name)
  where
    by_found : (found : Option NamedSequence) → option_map_or (λ (e : NamedSequence). e.sequence.edition) found 0 ≡ option_map_or (λ (s : Sequence). s.edition) (option_map (λ (e : NamedSequence). e.sequence) found) 0
    by_found None = refl
    by_found (Some e) = refl

-- a basis that is kept is at most the number of all changes, a new one is 1
pub basis_there : (t : TablesState) → IsTables t → (name : List ℕ) (d : Bool) → (sequence_of t name ≡ None → d ≡ false) → basis_of t name + rise d ≤ changes_in_all t + 1
unfolding sequence_of basis_of
basis_there t kept name d new = by_found (sequence_named t name) refl new
  where
    by_found : (found : Option NamedSequence) → sequence_named t name ≡ found → (option_map (λ (e : NamedSequence). e.sequence) found ≡ None → d ≡ false) → option_map_or (λ (s : Sequence). s.basis) (option_map (λ (e : NamedSequence). e.sequence) found) 1 + rise d ≤ changes_in_all t + 1
    by_found None is isnt = rw (isnt refl) (omega arith)
    by_found (Some e) is isnt =
        let most = named-All sequence_name (λ (e : NamedSequence). e.sequence.basis ≤ changes_in_all t) t.sequences name e kept.bases is in
        omega (arith, most, rise-few d)

-- the rules once a sequence is put under its name with one more edition
module _ (t : TablesState) (kept : IsTables t) (name : List ℕ) (s : Sequence) (next : s.edition ≡ edition_of t name + 1) (same : s.basis ≡ basis_of t name) where
  abbrev put_entry : NamedSequence
  put_entry = record { name = name; sequence = s; signed = signatures_of t name }

  abbrev put_tables : TablesState
  put_tables = with_sequence t name s (signatures_of t name)

  changes-put : changes_in_all put_tables ≡ changes_in_all t + 1
  changes-put =
      let change = sum_by-placed sequence_name (λ (e : NamedSequence). e.sequence.edition) t.sequences put_entry kept.sequences.names in
      omega (arith, change, edition_there t name, next)

  pub bases-put : (d : List ℕ → Bool) → (sequence_of t name ≡ None → d name ≡ false) → All (λ (e : NamedSequence). e.sequence.basis + rise (d e.name) ≤ changes_in_all put_tables) put_tables.sequences
  bases-put d new =
      let own = basis_there t kept name (d name) new in
      let more = changes-put in
      All-placed sequence_name (λ (e : NamedSequence). e.sequence.basis + rise (d e.name) ≤ changes_in_all put_tables) t.sequences put_entry
      (one_more (λ e. d e.name) (changes_in_all t) (changes_in_all put_tables) t.sequences (omega (arith, more)) kept.bases)
      (omega (arith, own, same, more))

  pub IsTables-put : IsSequenceEntry put_entry → AreBound put_tables → AreListed put_tables → length put_tables.sequences ≤ MOST_SEQUENCES → rows_in_all put_tables.sequences ≤ MOST_ROWS_IN_ALL → signed_bytes_in_all put_tables.sequences ≤ MOST_SIGNED_BYTES → IsTables put_tables
  IsTables-put entry bound listed few few_rows few_bytes =
      let own = basis_there t kept name false (λ _. refl) in
      let more = changes-put in
      record {
        traces = kept.traces;
        methods = kept.methods;
        sequences = record {
          names = AreRising-placed sequence_name t.sequences put_entry kept.sequences.names;
          each = All-placed sequence_name IsSequenceEntry t.sequences put_entry kept.sequences.each entry;
          few = few;
          few_rows = few_rows;
          few_bytes = few_bytes;
        };
        bases = All-placed sequence_name (λ (e : NamedSequence). e.sequence.basis ≤ changes_in_all put_tables) t.sequences put_entry
            (no_more (changes_in_all t) (changes_in_all put_tables) t.sequences (omega (arith, more)) kept.bases)
            (omega (arith, own, same, more));
        bound = bound;
        listed = listed;
      }
