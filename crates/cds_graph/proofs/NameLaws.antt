-- The names of the sequences after a change, and what stands under each of them.
use Rattle.std.proofs.Common.{◌≡◌, ◌∙◌, ℕ, ◌<◌, Bool, List, [], ◌∷◌, length, get_or, map, Option, Some, None, Ok}
use Rattle.std.proofs.Common.{option_map, refl, sym, ap, ap₂, Equal}
use Rattle.std.specs.Prelude.{is_some, if◌then◌else◌}
use Rattle.std.proofs.lemmas.Cmp.{nat_list_cmp_total, tied_itself}
use Rattle.std.proofs.lemmas.List.Elements.{at_read}
use Rattle.cds_base.specs.Named.{byte_cmp, AreRising, StandsAt, named, placed}
use Rattle.cds_base.proofs.NamedLaws.{map-placed, named-stands, searched}
use Rattle.cds_sign.specs.declared.command.Change.{Change}
use Rattle.cds_sign.specs.declared.command.Change.TheVariants as change
use Rattle.cds_sign.specs.declared.inputs.Inputs.{Inputs}
use Rattle.cds_sign.specs.declared.sequence.Sequence.{Sequence}
use Rattle.cds_sign.specs.declared.signed.Signed.{Signed}
use Rattle.cds_book.specs.Inputs.{bindings_of, inputs_in, inputs_by, inputs_of}
use Rattle.cds_book.specs.Plan.{applied, carried, raised, inputs_differ, with_changed, with_frozen, with_signature}
use Rattle.cds_book.specs.Plan.{sequence_made, signature, with_change}
use Rattle.cds_book.specs.Tables.{TablesState, NamedSequence, draft_of, sequence_of, sequence_named, signatures_of}
use Rattle.cds_graph.specs.Building.{sequence_placed, names_with, names_of}

-- names stay where bases rise
names-raised : (rises : NamedSequence → Bool) (xs : List NamedSequence) →
    map (λ (e : NamedSequence). e.name) (map (λ (e : NamedSequence). raised (rises e) e) xs)
    ≡ map (λ (e : NamedSequence). e.name) xs
names-raised rises [] = refl
names-raised rises (x ∷ xs) = ap (λ l. x.name ∷ l) (names-raised rises xs)

-- the names where a sequence is placed
names-placed : (entries : List NamedSequence) (entry : NamedSequence) →
    map (λ (e : NamedSequence). e.name) (placed (λ (e : NamedSequence). e.name) entries entry)
    ≡ placed (λ (n : List ℕ). n) (map (λ (e : NamedSequence). e.name) entries) entry.name
names-placed entries entry = map-placed (λ (e : NamedSequence). e.name) (λ (n : List ℕ). n) entries entry

-- a freeze leaves the sequences
names-frozen : (t : TablesState) (name : List ℕ) (draft : Option (List ℕ)) →
    names_of (with_frozen t name draft) ≡ names_of t
names-frozen t name None = refl
names-frozen t name (Some draft) = refl

-- a sequence that is made other keeps its name, or there is none of it
names-changed : (t : TablesState) (name : List ℕ) (f : Sequence → Sequence) (found : Option Sequence) →
    names_of (with_changed t name (option_map f found))
    ≡ names_with (if is_some found then Some name else None) (names_of t)
names-changed t name f None = refl
names-changed t name f (Some s) =
    names-placed t.sequences (record { name = name; sequence = f s; signed = signatures_of t name })

-- a sequence that is signed keeps its name
names-signed : (t : TablesState) (name : List ℕ) (sign : Inputs → Signed) (found : Option Sequence) →
    names_of (with_signature t name sign found)
    ≡ names_with (if is_some found then Some name else None) (names_of t)
names-signed t name sign None = refl
names-signed t name sign (Some s) = names-placed t.sequences _

-- the names after a change that is carried out
names-carried : (t : TablesState) (c : Change) →
    names_of (carried t c) ≡ names_with (sequence_placed t (Some c)) (names_of t)
unfolding sequence_made
names-carried t (change.Trace name signal) = refl
names-carried t (change.Draft name text) = refl
names-carried t (change.Freeze name version) = names-frozen t name (draft_of t name)
names-carried t (change.Sequence name edition method version standards rows) = names-placed t.sequences _
names-carried t (change.Events name edition row events) = names-changed t name _ (sequence_of t name)
names-carried t (change.Rebind name edition version) = names-changed t name _ (sequence_of t name)
names-carried t (change.Sign name number basis moment signer meaning text) =
    names-signed t name (signature number basis moment signer meaning text) (sequence_of t name)

-- the names after a change
pub names_of-after : (t : TablesState) (c : Option Change) →
    names_of (with_change t c) ≡ names_with (sequence_placed t c) (names_of t)
unfolding applied
names_of-after t None = refl
names_of-after t (Some c) =
    names-raised (λ (e : NamedSequence). inputs_differ t (carried t c) e.name) (carried t c).sequences
    ∙ names-carried t c

-- the names where nothing is done to a sequence, and where something is
pub names-unplaced : (t : TablesState) (c : Option Change) → None ≡ sequence_placed t c →
    names_of (with_change t c) ≡ names_of t
names-unplaced t c is = names_of-after t c ∙ ap (λ o. names_with o (names_of t)) (sym is)

pub names-one_placed : (t : TablesState) (c : Option Change) (name : List ℕ) → Some name ≡ sequence_placed t c →
    names_of (with_change t c) ≡ placed (λ (n : List ℕ). n) (names_of t) name
names-one_placed t c name is = names_of-after t c ∙ ap (λ o. names_with o (names_of t)) (sym is)

-- what stands under the name of the entry at a place
named-at : (entries : List NamedSequence) (at : ℕ) (entry : NamedSequence) →
    AreRising (map (λ (e : NamedSequence). e.name) entries) → at < length entries →
    entry ≡ get_or entries at entry →
    named (λ (e : NamedSequence). e.name) entries entry.name ≡ Some entry
named-at entries at entry rising within is =
    let name_of : NamedSequence → List ℕ = λ e. e.name in
    let tied = at_read entries (λ (e : NamedSequence). byte_cmp e.name entry.name ≡ Equal) at entry within is
    (tied_itself nat_list_cmp_total entry.name) in
    let stands : StandsAt name_of entries entry.name at =
    (searched name_of entries entry.name rising (Ok at) within tied).0 in
    named-stands name_of entries entry.name at entry stands ∙ ap Some (sym is)

-- the inputs of the sequence at a place
pub inputs-at : (t : TablesState) (at : ℕ) (entry : NamedSequence) → AreRising (names_of t) →
    at < length t.sequences → entry ≡ get_or t.sequences at entry →
    inputs_of t entry.name ≡ Some (inputs_in (bindings_of t) entry.sequence)
unfolding inputs_by bindings_of sequence_of
inputs-at t at entry rising within is =
    let found = named-at t.sequences at entry rising within is in
    ap (λ (o : Option NamedSequence).
    option_map (inputs_in (bindings_of t)) (option_map (λ (e : NamedSequence). e.sequence) o)) found
