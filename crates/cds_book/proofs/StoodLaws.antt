-- Sequences are read back as they were put, their editions rise, and signatures stay.
use Rattle.std.proofs.Common.{◌≡◌, ◌∙◌, ℕ, ◌+◌, inl, inr, List, [], ◌∷◌, ◌++◌, Option, Some, None, option_map, unwrap_or, refl, sym, ap, subst}
use Rattle.std.specs.Prelude.{if◌then◌else◌}
use Rattle.std.specs.Option.{option_map_or}
use Rattle.std.specs.Str.{bytes_eq}
use Rattle.std.proofs.lemmas.Bool.{cases_Bool}
use Rattle.std.proofs.lemmas.Slice.Eq.{bytes_eq-Decides}
use Rattle.cds_base.proofs.NamedLaws.{named-map, named-placed_other}
use Rattle.cds_sign.specs.declared.command.Change.{Change}
use Rattle.cds_sign.specs.declared.command.Change.TheVariants as change
use Rattle.cds_sign.specs.declared.inputs.Inputs.{Inputs}
use Rattle.cds_sign.specs.declared.row.Row.{Row}
use Rattle.cds_sign.specs.declared.sequence.Sequence.{Sequence}
use Rattle.cds_sign.specs.declared.signed.Signed.{Signed}
use Rattle.cds_book.specs.Inputs.{bindings_of, inputs_in}
use Rattle.cds_book.specs.Judged.{edition_of}
use Rattle.cds_book.specs.Kept.{IsTables}
use Rattle.cds_book.specs.Plan.{applied, carried, raised, inputs_differ, basis_of, sequence_changed, sequence_made, sequence_put, signature, with_changed, with_frozen, with_sequence, with_signature, Accepts}
use Rattle.cds_book.specs.Raising.{Makes}
use Rattle.cds_book.specs.Tables.{NamedSequence, TablesState, numbered, draft_of, sequence_named, sequence_of, signatures_of, signed_of}
use Rattle.cds_book.proofs.AcceptedLaws.{MakesSequence-accepted}
use Rattle.cds_book.proofs.AgainLaws.{sequence_of-made}
use Rattle.cds_book.proofs.LookLaws.{signatures_of-found}
use Rattle.cds_book.proofs.SequenceLaws.{sequence_name, signatures_of-with}
use Rattle.cds_book.proofs.NumberLaws.{numbered-append}

-- a sequence that was put is read back, with its new basis
pub sequence_of-put : (t : TablesState) (name : List ℕ) (edition : ℕ) (method : List ℕ) (version : ℕ) (standards : List (List ℕ)) (rows : List Row)
    → sequence_of (applied t (change.Sequence name edition method version standards rows)) name
    ≡ Some (record (sequence_put t name method version standards rows) { basis = basis_of t name + (if inputs_differ t (carried t (change.Sequence name edition method version standards rows)) name then 1 else 0) })
unfolding sequence_made
sequence_of-put t name edition method version standards rows =
    sequence_of-made t (change.Sequence name edition method version standards rows) name (sequence_put t name method version standards rows) (signatures_of t name) refl

-- a change of a sequence makes it
Makes-changed : (c : Change) (name : List ℕ) → sequence_changed c ≡ Some name → Makes name c
Makes-changed (change.Trace own signal) name is = cc
Makes-changed (change.Draft own text) name is = cc
Makes-changed (change.Freeze own version) name is = cc
Makes-changed (change.Sequence own edition method version standards rows) name is = cc
Makes-changed (change.Events own edition row events) name is = cc
Makes-changed (change.Rebind own edition version) name is = cc
Makes-changed (change.Sign sequence number basis moment own meaning text) name is = cc

-- the edition of its own sequence rises by one
pub edition_of-changed : (t : TablesState) (c : Change) (name : List ℕ) → IsTables t → Accepts t c → sequence_changed c ≡ Some name → edition_of (applied t c) name ≡ edition_of t name + 1
unfolding edition_of
edition_of-changed t c name kept accepts is =
    let m = MakesSequence-accepted t kept c name (Makes-changed c name is) accepts in
    ap (λ (o : Option Sequence). option_map_or (λ (s : Sequence). s.edition) o 0) (sequence_of-made t c name m.made (signatures_of t name) m.carried_is) ∙ m.edition

-- bases that rise leave the signatures
signatures_of-applied : (t : TablesState) (c : Change) (name : List ℕ) → signatures_of (applied t c) name ≡ signatures_of (carried t c) name
unfolding applied signatures_of
signatures_of-applied t c name =
    let raise : NamedSequence → NamedSequence = λ e. raised (inputs_differ t (carried t c) e.name) e in
    ap (λ (o : Option NamedSequence). unwrap_or (option_map (λ (e : NamedSequence). e.signed) o) []) (named-map raise sequence_name (carried t c).sequences name) ∙ by_found (sequence_named (carried t c) name)
  where
    by_found : (found : Option NamedSequence) → unwrap_or (option_map (λ (e : NamedSequence). e.signed) (option_map (λ (e : NamedSequence). raised (inputs_differ t (carried t c) e.name) e) found)) [] ≡ unwrap_or (option_map (λ (e : NamedSequence). e.signed) found) []
    by_found None = refl
    by_found (Some e) = refl

module _ (t : TablesState) (name : List ℕ) (number : ℕ) (x : Signed) (is : numbered (signatures_of t name) number ≡ Some x) where
  -- a signature stays where a sequence is put with its signatures, or with more
  signed-with : (put : List ℕ) (s : Sequence) (signed : List Signed) → (numbered (signatures_of t put) number ≡ Some x → numbered signed number ≡ Some x) → numbered (signatures_of (with_sequence t put s signed) name) number ≡ Some x
  signed-with put s signed more =
      let entry : NamedSequence = record { name = put; sequence = s; signed = signed } in
      let after = with_sequence t put s signed in
      elim (cases_Bool (bytes_eq put name)) [
        | inl same ↦
            let one : put ≡ name = (bytes_eq-Decides put name).0 same in
            let was : numbered (signatures_of t put) number ≡ Some x = subst (λ n. numbered (signatures_of t n) number ≡ Some x) (sym one) is in
            subst (λ n. numbered (signatures_of after n) number ≡ Some x) one (ap (λ (xs : List Signed). numbered xs number) (signatures_of-with t put s signed) ∙ more was)
        | inr other ↦
            let found : signatures_of after name ≡ signatures_of t name = signatures_of-found after name _ (named-placed_other sequence_name t.sequences entry name other) ∙ sym (signatures_of-found t name _ refl) in
            ap (λ (xs : List Signed). numbered xs number) found ∙ is
      ]

  signed-changed : (put : List ℕ) (made : Option Sequence) → numbered (signatures_of (with_changed t put made) name) number ≡ Some x
  signed-changed put None = is
  signed-changed put (Some s) = signed-with put s (signatures_of t put) (λ was. was)

  signed-frozen : (put : List ℕ) (draft : Option (List ℕ)) → numbered (signatures_of (with_frozen t put draft) name) number ≡ Some x
  unfolding signatures_of
  signed-frozen put None = is
  signed-frozen put (Some draft) = is

  signed-signed : (put : List ℕ) (over : Inputs → Signed) (found : Option Sequence) → numbered (signatures_of (with_signature t put over found) name) number ≡ Some x
  signed-signed put over None = is
  signed-signed put over (Some s) =
      let more = over (inputs_in (bindings_of t) s) ∷ [] in
      signed-with put s (signatures_of t put ++ more) (numbered-append (signatures_of t put) more number x)

  signed-carried : (c : Change) → numbered (signatures_of (carried t c) name) number ≡ Some x
  unfolding signatures_of
  signed-carried (change.Trace own signal) = is
  signed-carried (change.Draft own text) = is
  signed-carried (change.Freeze own version) = signed-frozen own (draft_of t own)
  signed-carried (change.Sequence own edition method version standards rows) = signed-changed own (sequence_made t (change.Sequence own edition method version standards rows))
  signed-carried (change.Events own edition row events) = signed-changed own (sequence_made t (change.Events own edition row events))
  signed-carried (change.Rebind own edition version) = signed-changed own (sequence_made t (change.Rebind own edition version))
  signed-carried (change.Sign sequence n basis moment own meaning text) = signed-signed sequence (signature n basis moment own meaning text) (sequence_of t sequence)

-- each signature stays at its number
pub signed_of-stays : (t : TablesState) (c : Change) (name : List ℕ) (number : ℕ) (x : Signed) → signed_of t name number ≡ Some x → signed_of (applied t c) name number ≡ Some x
signed_of-stays t c name number x is = ap (λ (xs : List Signed). numbered xs number) (signatures_of-applied t c name) ∙ signed-carried t name number x is c
