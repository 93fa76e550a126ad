-- All rules are kept by each accepted change, and no basis passes its greatest number.
use Rattle.std.proofs.Common.{◌≡◌, ◌∙◌, ℕ, ◌+◌, ◌*◌, ◌≤◌, Bool, false, List, [], ◌∷◌, ◌++◌, length, map, Option, Some, None, option_map, unwrap_or, refl, sym, ap, subst, arith}
use Rattle.std.specs.Prelude.{All, is_some, not}
use Rattle.std.specs.List.{sum_by}
use Rattle.std.specs.Option.{option_map_or}
use Rattle.std.proofs.lemmas.List.{length-append}
use Rattle.std.proofs.lemmas.List.Elements.{All-nil, All-cons, All-append, All-head, All-tail}
use Rattle.std.proofs.lemmas.List.Sums.{sum_by-cons}
use Rattle.cds_base.proofs.NamedLaws.{named-All, All-placed, AreRising-placed, sum_by-placed}
use Rattle.cds_sign.specs.declared.command.Change.{Change}
use Rattle.cds_sign.specs.declared.command.Change.TheVariants as change
use Rattle.cds_sign.specs.declared.limits.TheConstants.{MOST_BASIS, MOST_EDITION, MOST_SIGNATURES}
use Rattle.cds_sign.specs.declared.sequence.Sequence.{Sequence}
use Rattle.cds_book.specs.Held.{HeldSequence, sequence_shown, state_held, IsHeld}
use Rattle.cds_book.specs.Inputs.{bindings_of, inputs_by, inputs_in, inputs_of}
use Rattle.cds_book.specs.Judged.{edition_of}
use Rattle.cds_book.specs.Kept.{IsTables, IsSequenceEntry, IsSignature, AreNumbered, changes_in_all}
use Rattle.cds_book.specs.Plan.{applied, carried, are_others, basis_of, inputs_differ, sequence_made, sequence_put, with_events, with_sequence, Accepts}
use Rattle.cds_book.specs.Tables.{NamedSequence, TablesState, sequence_named, sequence_of, signatures_of}
use Rattle.cds_book.specs.declared.tables.Tables.TheInside.{Inside}
use Rattle.cds_book.proofs.AcceptedLaws.{basis_of-there, MakesSequence, MakesSignature, MakesSequence-accepted, MakesSignature-accepted}
use Rattle.cds_book.proofs.AppliedLaws.{IsTables-applied_trace, IsTables-applied_draft, IsTables-applied_freeze}
use Rattle.cds_book.proofs.FitLaws.{Fits-there, there-entry}
use Rattle.cds_book.proofs.NumberLaws.{AreNumbered-none, AreNumbered-push}
use Rattle.cds_book.proofs.ResolvedLaws.{bound-with, listed-with}
use Rattle.cds_book.proofs.RaisedLaws.{IsTables-rises, IsTables-put, applied-same, bases-put, basis_there, edition_there, no_more, rise}
use Rattle.cds_book.proofs.SequenceLaws.{sequence_name, sequences-with, rows-with, bytes-with}
use mir.Val.{bool_byte}

-- a name has few signatures
few-signatures : (t : TablesState) → IsTables t → (name : List ℕ) → length (signatures_of t name) ≤ MOST_SIGNATURES
unfolding signatures_of
few-signatures t kept name = by_found (sequence_named t name) refl
  where
    by_found : (found : Option NamedSequence) → sequence_named t name ≡ found → length (unwrap_or (option_map (λ (e : NamedSequence). e.signed) found) []) ≤ MOST_SIGNATURES
    by_found None is = omega arith
    by_found (Some e) is = (named-All sequence_name IsSequenceEntry t.sequences name e kept.sequences.each is).few_signed

-- each of which is one
signed-signatures : (t : TablesState) → IsTables t → (name : List ℕ) → All IsSignature (signatures_of t name)
unfolding signatures_of
signed-signatures t kept name = by_found (sequence_named t name) refl
  where
    by_found : (found : Option NamedSequence) → sequence_named t name ≡ found →
        All IsSignature (unwrap_or (option_map (λ (e : NamedSequence). e.signed) found) [])
    by_found None is = All-nil IsSignature
    by_found (Some e) is = (named-All sequence_name IsSequenceEntry t.sequences name e kept.sequences.each is).signed

-- a basis is counted from 1
first-basis : (t : TablesState) → IsTables t → (name : List ℕ) → 1 ≤ basis_of t name
unfolding basis_of sequence_of
first-basis t kept name = by_found (sequence_named t name) refl
  where
    by_found : (found : Option NamedSequence) → sequence_named t name ≡ found →
        1 ≤ option_map_or (λ (s : Sequence). s.basis) (option_map (λ (e : NamedSequence). e.sequence) found) 1
    by_found None is = omega arith
    by_found (Some e) is = (named-All sequence_name IsSequenceEntry t.sequences name e kept.sequences.each is).first_basis

-- and they are numbered
numbers-signatures : (t : TablesState) → IsTables t → (name : List ℕ) → AreNumbered (signatures_of t name)
unfolding signatures_of
numbers-signatures t kept name = by_found (sequence_named t name) refl
  where
    by_found : (found : Option NamedSequence) → sequence_named t name ≡ found → AreNumbered (unwrap_or (option_map (λ (e : NamedSequence). e.signed) found) [])
    by_found None is = AreNumbered-none
    by_found (Some e) is = (named-All sequence_name IsSequenceEntry t.sequences name e kept.sequences.each is).numbers

-- the inputs of a new sequence are no others than before
differs-new : (t s : TablesState) (name : List ℕ) → sequence_of t name ≡ None → inputs_differ t s name ≡ false
unfolding inputs_differ inputs_by bindings_of
differs-new t s name new = ap (λ (o : Option Sequence). are_others (option_map (inputs_in (bindings_of t)) o) (inputs_of s name)) new

-- the rules once a sequence is put or made other
IsTables-made : (t : TablesState) → IsTables t → (c : Change) (name : List ℕ) → MakesSequence t c name → IsTables (applied t c)
IsTables-made t kept c name m =
    let d : List ℕ → Bool = inputs_differ t (carried t c) in
    let signed = few-signatures t kept name in
    let seen = m.few_edition in
    let next = m.edition in
    let entry : IsSequenceEntry (record { name = name; sequence = m.made; signed = signatures_of t name }) = record {
      name = m.named;
      first_edition = omega (arith, next);
      edition = omega (arith, seen, next);
      first_basis = let based = m.basis in let first = first-basis t kept name in omega (arith, based, first);
      method = m.fits.method;
      rows = m.fits.rows;
      standards = m.fits.standards;
      few_signed = signed;
      signed = signed-signatures t kept name;
      numbers = numbers-signatures t kept name;
    } in
    let bytes = bytes-with t kept name m.made (signatures_of t name) in
    let few_bytes = kept.sequences.few_bytes in
    let put = IsTables-put t kept name m.made m.edition m.basis entry (bound-with t kept name m.made (signatures_of t name) m.fits) (listed-with t kept name m.made (signatures_of t name) m.fits) m.few m.few_in_all (omega (arith, bytes, few_bytes)) in
    let bases = bases-put t kept name m.made m.edition m.basis d (differs-new t (carried t c) name) in
    IsTables-rises t c (subst IsTables (sym m.carried_is) put)
    (subst (λ (s : TablesState). All (λ (e : NamedSequence). e.sequence.basis + rise (d e.name) ≤ changes_in_all s) s.sequences) (sym m.carried_is) bases)

-- the rules once a sequence is signed
IsTables-signed : (t : TablesState) → IsTables t → (c : Change) (name : List ℕ) → MakesSignature t c name → IsTables (applied t c)
unfolding edition_of
IsTables-signed t kept c name m =
    let s = m.sequence in
    let signed = signatures_of t name ++ m.signed ∷ [] in
    let entry : NamedSequence = record { name = name; sequence = s; signed = signed } in
    let after = with_sequence t name s signed in
    let found = there-entry t name s m.there in
    let kept_one = named-All sequence_name IsSequenceEntry t.sequences name found.0 kept.sequences.each found.1 in
    let edition = subst (λ (q : Sequence). q.edition ≤ MOST_EDITION + 1) found.2 kept_one.edition in
    let first_edition = subst (λ (q : Sequence). 1 ≤ q.edition) found.2 kept_one.first_edition in
    let first_basis = subst (λ (q : Sequence). 1 ≤ q.basis) found.2 kept_one.first_basis in
    let fits = Fits-there t kept name s m.there in
    let basis = subst (λ (q : Sequence). q.basis ≤ changes_in_all t) found.2 (named-All sequence_name (λ (e : NamedSequence). e.sequence.basis ≤ changes_in_all t) t.sequences name found.0 kept.bases found.1) in
    let more = length-append (signatures_of t name) (m.signed ∷ []) in
    let few_signed = m.few in
    let entry_kept : IsSequenceEntry entry = record {
      name = m.named;
      first_edition = first_edition;
      edition = edition;
      first_basis = first_basis;
      method = fits.method;
      rows = fits.rows;
      standards = fits.standards;
      few_signed = omega (arith, more, few_signed);
      signed = All-append IsSignature (signatures_of t name) (m.signed ∷ []) (signed-signatures t kept name)
          (All-cons IsSignature m.signed [] m.ranges (All-nil IsSignature));
      numbers = AreNumbered-push (signatures_of t name) m.signed (numbers-signatures t kept name) m.number;
    } in
    let many = sequences-with t kept name s signed in
    let old : bool_byte (not (is_some (sequence_of t name))) ≡ 0 = ap (λ (o : Option Sequence). bool_byte (not (is_some o))) m.there in
    let few = kept.sequences.few in
    let all_rows = rows-with t kept name s signed in
    let old_rows : option_map_or (λ (x : Sequence). length x.rows) (sequence_of t name) 0 ≡ length s.rows = ap (λ (o : Option Sequence). option_map_or (λ (x : Sequence). length x.rows) o 0) m.there in
    let few_rows = kept.sequences.few_rows in
    let editions = sum_by-placed sequence_name (λ (e : NamedSequence). e.sequence.edition) t.sequences entry kept.sequences.names in
    let old_edition : edition_of t name ≡ s.edition = ap (λ (o : Option Sequence). option_map_or (λ (x : Sequence). x.edition) o 0) m.there in
    let same : changes_in_all after ≡ changes_in_all t = omega (arith, editions, edition_there t name, old_edition) in
    let all : IsTables after = record {
      traces = kept.traces;
      methods = kept.methods;
      sequences = record {
        names = AreRising-placed sequence_name t.sequences entry kept.sequences.names;
        each = All-placed sequence_name IsSequenceEntry t.sequences entry kept.sequences.each entry_kept;
        few = omega (arith, many, old, few);
        few_rows = omega (arith, all_rows, old_rows, few_rows);
        few_bytes = m.few_bytes;
      };
      bases = All-placed sequence_name (λ (e : NamedSequence). e.sequence.basis ≤ changes_in_all after) t.sequences entry
          (no_more (changes_in_all t) (changes_in_all after) t.sequences (omega (arith, same)) kept.bases)
          (omega (arith, basis, same));
      bound = bound-with t kept name s signed fits;
      listed = listed-with t kept name s signed fits;
    } in
    subst IsTables (sym (applied-same t c m.same ∙ m.carried_is)) all

-- all rules are kept by each accepted change
pub IsTables-applied : (t : TablesState) (c : Change) → IsTables t → Accepts t c → IsTables (applied t c)
IsTables-applied t (change.Trace name signal) kept accepts = IsTables-applied_trace t name signal kept accepts
IsTables-applied t (change.Draft name text) kept accepts = IsTables-applied_draft t name text kept accepts
IsTables-applied t (change.Freeze name version) kept accepts = IsTables-applied_freeze t name version kept accepts
IsTables-applied t (change.Sequence name edition method version standards rows) kept accepts =
    let c = change.Sequence name edition method version standards rows in
    IsTables-made t kept c name (MakesSequence-accepted t kept c name refl accepts)
IsTables-applied t (change.Events name edition row events) kept accepts =
    let c = change.Events name edition row events in
    IsTables-made t kept c name (MakesSequence-accepted t kept c name refl accepts)
IsTables-applied t (change.Rebind name edition version) kept accepts =
    let c = change.Rebind name edition version in
    IsTables-made t kept c name (MakesSequence-accepted t kept c name refl accepts)
IsTables-applied t (change.Sign sequence number basis moment name meaning text) kept accepts =
    let c = change.Sign sequence number basis moment name meaning text in
    IsTables-signed t kept c sequence (MakesSignature-accepted t c sequence refl accepts)

-- editions are few in all
few-editions : (es : List NamedSequence) → All IsSequenceEntry es → sum_by (λ (e : NamedSequence). e.sequence.edition) es ≤ 4294967296 * length es
few-editions [] each = omega arith
few-editions (e ∷ es) each =
    let one = (All-head IsSequenceEntry e es each).edition in
    let rest = few-editions es (All-tail IsSequenceEntry e es each) in
    let sum = sum_by-cons (λ (x : NamedSequence). x.sequence.edition) e es in
    omega (arith, one, rest, sum)

-- and so are changes
few-changes : (t : TablesState) → IsTables t → changes_in_all t + 1 ≤ MOST_BASIS
few-changes t kept =
    let editions = few-editions t.sequences kept.sequences.each in
    let few = kept.sequences.few in
    let traces = kept.traces.few_versions in
    let methods = kept.methods.few_versions in
    omega (arith, editions, few, traces, methods)

pub few-bases : (t : TablesState) → IsTables t → All (λ (e : NamedSequence). e.sequence.basis ≤ MOST_BASIS) t.sequences
few-bases t kept = let few = few-changes t kept in no_more (changes_in_all t) MOST_BASIS t.sequences (omega (arith, few)) kept.bases

-- what holds of all as they are seen holds of them
All-seen : (hs : List HeldSequence) → All (λ (e : NamedSequence). e.sequence.basis ≤ MOST_BASIS) (map sequence_shown hs) → All (λ (e : HeldSequence). e.value.sequence.basis ≤ MOST_BASIS) hs
All-seen [] each = All-nil (λ (e : HeldSequence). e.value.sequence.basis ≤ MOST_BASIS)
All-seen (h ∷ hs) each =
    let seen : NamedSequence → Type 0 = λ (e : NamedSequence). e.sequence.basis ≤ MOST_BASIS in
    All-cons (λ (e : HeldSequence). e.value.sequence.basis ≤ MOST_BASIS) h hs (All-head seen (sequence_shown h) (map sequence_shown hs) each)
    (All-seen hs (All-tail seen (sequence_shown h) (map sequence_shown hs) each))

-- the bases that are held are few
pub few-held : (a : Inside) → IsHeld a → All (λ (e : HeldSequence). e.value.sequence.basis ≤ MOST_BASIS) a.sequences.entries.items
few-held a held = All-seen a.sequences.entries.items (few-bases (state_held a) held.tables)

-- the basis of a sequence that a change makes is no more than the greatest number
basis-few : (t : TablesState) → IsTables t → (name : List ℕ) → basis_of t name ≤ MOST_BASIS
basis-few t kept name =
    let own = basis_there t kept name false (λ _. refl) in
    let few = few-changes t kept in
    omega (arith, own, few)

basis-other : (t : TablesState) → IsTables t → (name : List ℕ) (f : Sequence → Sequence) → ((s : Sequence) → (f s).basis ≡ s.basis) → (found : Option Sequence) → sequence_of t name ≡ found → (q : Sequence) → option_map f found ≡ Some q → q.basis ≤ MOST_BASIS
basis-other t kept name f same None there q is = cc
basis-other t kept name f same (Some s) there q is =
    let one : f s ≡ q = cc in
    let few = basis-few t kept name in
    let own = basis_of-there t name s there in
    subst (λ (x : Sequence). x.basis ≤ MOST_BASIS) one (let alike = same s in omega (arith, alike, own, few))

pub few-made : (t : TablesState) → IsTables t → (c : Change) (q : Sequence) → sequence_made t c ≡ Some q → q.basis ≤ MOST_BASIS
unfolding sequence_made
few-made t kept (change.Trace name signal) q is = cc
few-made t kept (change.Draft name text) q is = cc
few-made t kept (change.Freeze name version) q is = cc
few-made t kept (change.Sequence name edition method version standards rows) q is =
    let one : sequence_put t name method version standards rows ≡ q = cc in
    subst (λ (x : Sequence). x.basis ≤ MOST_BASIS) one (basis-few t kept name)
few-made t kept (change.Events name edition row events) q is = basis-other t kept name (λ s. record s { edition = edition_of t name + 1; rows = with_events s.rows row events }) (λ s. refl) (sequence_of t name) refl q is
few-made t kept (change.Rebind name edition version) q is = basis-other t kept name (λ s. record s { edition = edition_of t name + 1; version = version }) (λ s. refl) (sequence_of t name) refl q is
few-made t kept (change.Sign sequence number basis moment name meaning text) q is = cc
