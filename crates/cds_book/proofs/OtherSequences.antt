-- A change leaves the sequences that it doesn't change, but for their bases.
use Rattle.std.proofs.Common.{◌≡◌, ◌∙◌, ℕ, ◌+◌, List, [], ◌∷◌, ◌++◌, Option, Some, None, option_map, refl, sym, ap}
use Rattle.std.specs.Prelude.{◌≢◌, if◌then◌else◌}
use Rattle.cds_sign.specs.declared.command.Change.{Change}
use Rattle.cds_sign.specs.declared.command.Change.TheVariants as change
use Rattle.cds_sign.specs.declared.inputs.Inputs.{Inputs}
use Rattle.cds_sign.specs.declared.sequence.Sequence.{Sequence}
use Rattle.cds_sign.specs.declared.signed.Signed.{Signed}
use Rattle.cds_book.specs.Inputs.{bindings_of, inputs_in}
use Rattle.cds_book.specs.Plan.{applied, carried, inputs_differ, sequence_changed, sequence_made, signature, with_changed, with_frozen, with_signature}
use Rattle.cds_book.specs.Tables.{NamedSequence, TablesState, draft_of, sequence_named, sequence_of, signatures_of}
use Rattle.cds_book.proofs.AgainLaws.{sequence_of-applied, risen}
use Rattle.cds_book.proofs.BasisLaws.{differ-applied, named-name}
use Rattle.cds_book.proofs.BindingLaws.{same_sequence, sequences-put}
use Rattle.cds_book.proofs.OtherLaws.{bytes_eq-other}

-- a sequence that is put leaves those of other names
changed-other : (t : TablesState) (put name : List ℕ) (made : Option Sequence) → Some name ≢ Some put → sequence_of (with_changed t put made) name ≡ sequence_of t name
changed-other t put name None differs = refl
changed-other t put name (Some s) differs =
    let other = bytes_eq-other put name (λ same. differs (ap Some same)) in
    let is = sequences-put t put s (signatures_of t put) name in
    sym (rw other at is)

-- a signature leaves all
signed-other : (t : TablesState) (put name : List ℕ) (over : Inputs → Signed) (found : Option Sequence) → sequence_of t put ≡ found → sequence_of (with_signature t put over found) name ≡ sequence_of t name
signed-other t put name over None there = refl
signed-other t put name over (Some s) there = sym (same_sequence t put s there (signatures_of t put ++ over (inputs_in (bindings_of t) s) ∷ []) name)

frozen-other : (t : TablesState) (put name : List ℕ) (draft : Option (List ℕ)) → sequence_of (with_frozen t put draft) name ≡ sequence_of t name
unfolding sequence_of
frozen-other t put name None = refl
frozen-other t put name (Some draft) = refl

-- a change leaves each sequence that it doesn't change
carried-other : (t : TablesState) (c : Change) (name : List ℕ) → Some name ≢ sequence_changed c → sequence_of (carried t c) name ≡ sequence_of t name
unfolding sequence_of
carried-other t (change.Trace put signal) name differs = refl
carried-other t (change.Draft put text) name differs = refl
carried-other t (change.Freeze put version) name differs = frozen-other t put name (draft_of t put)
carried-other t (change.Sequence put edition method version standards rows) name differs = changed-other t put name (sequence_made t (change.Sequence put edition method version standards rows)) differs
carried-other t (change.Events put edition row events) name differs = changed-other t put name (sequence_made t (change.Events put edition row events)) differs
carried-other t (change.Rebind put edition version) name differs = changed-other t put name (sequence_made t (change.Rebind put edition version)) differs
carried-other t (change.Sign put number basis moment own meaning text) name differs = signed-other t put name (signature number basis moment own meaning text) (sequence_of t put) refl

-- its basis rises where its inputs are then others
pub sequence_of-other : (t : TablesState) (c : Change) (name : List ℕ) (s : Sequence) → Some name ≢ sequence_changed c → sequence_of t name ≡ Some s
    → sequence_of (applied t c) name ≡ Some (record s { basis = s.basis + (if inputs_differ t (applied t c) name then 1 else 0) })
unfolding sequence_of
sequence_of-other t c name s differs is =
    sequence_of-applied t c name ∙ by_found (sequence_named (carried t c) name) refl (carried-other t c name differs ∙ is)
    ∙ ap (λ b. Some (record s { basis = s.basis + (if b then 1 else 0) })) (sym (differ-applied t c name))
  where
    by_found : (found : Option NamedSequence) → sequence_named (carried t c) name ≡ found → option_map (λ (e : NamedSequence). e.sequence) found ≡ Some s
        → option_map (λ (e : NamedSequence). (risen t c e).sequence) found ≡ Some (record s { basis = s.basis + (if inputs_differ t (carried t c) name then 1 else 0) })
    by_found None there was = cc
    by_found (Some e) there was =
        let named_so : e.name ≡ name = named-name (carried t c).sequences name e there in
        let same : e.sequence ≡ s = cc in
        ap (λ n. Some (record e.sequence { basis = e.sequence.basis + (if inputs_differ t (carried t c) n then 1 else 0) })) named_so
        ∙ ap (λ (q : Sequence). Some (record q { basis = q.basis + (if inputs_differ t (carried t c) name then 1 else 0) })) same

-- and where there was none there is none
pub sequence_of-absent : (t : TablesState) (c : Change) (name : List ℕ) → Some name ≢ sequence_changed c → sequence_of t name ≡ None → sequence_of (applied t c) name ≡ None
unfolding sequence_of
sequence_of-absent t c name differs is = sequence_of-applied t c name ∙ by_found (sequence_named (carried t c) name) (carried-other t c name differs ∙ is)
  where
    by_found : (found : Option NamedSequence) → option_map (λ (e : NamedSequence). e.sequence) found ≡ None → option_map (λ (e : NamedSequence). (risen t c e).sequence) found ≡ None
    by_found None was = refl
    by_found (Some e) was = cc
