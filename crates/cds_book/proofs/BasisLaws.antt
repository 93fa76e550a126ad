-- The basis of a sequence that was there rises by one exactly where its inputs become others.
use Rattle.std.proofs.Common.{◌≡◌, ◌∙◌, ℕ, ◌+◌, Bool, true, false, List, [], ◌∷◌, ◌++◌, Option, Some, None, option_map, refl, sym, ap}
use Rattle.std.proofs.Math.Path.{fun_ext}
use Rattle.std.specs.Prelude.{if◌then◌else◌}
use Rattle.std.specs.List.{filter_map}
use Rattle.std.specs.Str.{bytes_eq}
use Rattle.std.proofs.lemmas.Slice.Eq.{bytes_eq-Decides}
use Rattle.cds_base.specs.Named.{named}
use Rattle.cds_sign.specs.declared.command.Change.{Change}
use Rattle.cds_sign.specs.declared.command.Change.TheVariants as change
use Rattle.cds_sign.specs.declared.inputs.Inputs.{Inputs}
use Rattle.cds_sign.specs.declared.inputs.Listed.{Listed}
use Rattle.cds_sign.specs.declared.sequence.Sequence.{Sequence}
use Rattle.cds_sign.specs.declared.signed.Signed.{Signed}
use Rattle.cds_book.specs.Inputs.{bindings_of, inputs_by, inputs_in, inputs_of, listed_as, listed_of, row_listed, row_resolved}
use Rattle.cds_book.specs.Judged.{edition_of}
use Rattle.cds_book.specs.Plan.{applied, are_others, carried, inputs_differ, basis_of, sequence_made, sequence_put, signature, with_changed, with_events, with_frozen, with_sequence, with_signature}
use Rattle.cds_book.specs.Tables.{NamedSequence, TablesState, draft_of, signals_of, texts_of, sequence_named, sequence_of, signatures_of}
use Rattle.cds_book.proofs.AcceptedLaws.{basis_of-there}
use Rattle.cds_book.proofs.AgainLaws.{sequence_of-applied, risen}
use Rattle.cds_book.proofs.BindingLaws.{sequences-put}
use Rattle.cds_book.proofs.SequenceLaws.{sequence_name}

-- bases that rise leave what a sequence gives to those that list it
listed_of-applied : (t : TablesState) (c : Change) (name : List ℕ) → listed_of (bindings_of (applied t c)) name ≡ listed_of (bindings_of (carried t c)) name
unfolding applied bindings_of listed_of listed_as row_listed signals_of texts_of sequence_of
listed_of-applied t c name = ap (option_map (listed_as (bindings_of (applied t c)) name)) (sequence_of-applied t c name) ∙ by_found (sequence_named (carried t c) name)
  where
    by_found : (found : Option NamedSequence) → option_map (listed_as (bindings_of (applied t c)) name) (option_map (λ (e : NamedSequence). (risen t c e).sequence) found) ≡ option_map (listed_as (bindings_of (carried t c)) name) (option_map (λ (e : NamedSequence). e.sequence) found)
    by_found None = refl
    by_found (Some e) = refl

-- and the inputs of each
pub inputs_of-applied : (t : TablesState) (c : Change) (name : List ℕ) → inputs_of (applied t c) name ≡ inputs_of (carried t c) name
unfolding applied bindings_of inputs_by inputs_in row_resolved signals_of texts_of sequence_of
inputs_of-applied t c name = ap (option_map (inputs_in (bindings_of (applied t c)))) (sequence_of-applied t c name) ∙ by_found (sequence_named (carried t c) name)
  where
    by_found : (found : Option NamedSequence) → option_map (inputs_in (bindings_of (applied t c))) (option_map (λ (e : NamedSequence). (risen t c e).sequence) found) ≡ option_map (inputs_in (bindings_of (carried t c))) (option_map (λ (e : NamedSequence). e.sequence) found)
    by_found None = refl
    by_found (Some e) = ap (λ (f : List ℕ → Option Listed). Some (record (inputs_in (bindings_of (carried t c)) e.sequence) { standards = filter_map f e.sequence.standards })) (fun_ext (listed_of-applied t c))

-- so inputs differ after a change where they do before the bases rise
pub differ-applied : (t : TablesState) (c : Change) (name : List ℕ) → inputs_differ t (applied t c) name ≡ inputs_differ t (carried t c) name
unfolding inputs_differ
differ-applied t c name = ap (are_others (inputs_of t name)) (inputs_of-applied t c name)

-- what stands under a name has it
pub named-name : (es : List NamedSequence) (name : List ℕ) (e : NamedSequence) → named sequence_name es name ≡ Some e → e.name ≡ name
named-name [] name e is = cc
named-name (x ∷ xs) name e is = by_test (bytes_eq x.name name) refl (named-name xs name e)
  where
    by_test : (b : Bool) → bytes_eq x.name name ≡ b → (named sequence_name xs name ≡ Some e → e.name ≡ name) → e.name ≡ name
    by_test true here rest =
        let same : Some x ≡ Some e = rw here at is in
        let one : x ≡ e = cc in
        ap sequence_name (sym one) ∙ (bytes_eq-Decides x.name name).0 here
    by_test false other rest = rest (rw other at is)

-- the basis of a sequence
abbrev basis_at : TablesState → List ℕ → Option ℕ
basis_at t name = option_map (λ (s : Sequence). s.basis) (sequence_of t name)

module _ (t : TablesState) (name : List ℕ) (s : Sequence) (is : sequence_of t name ≡ Some s) where
  -- it stays where one of the same basis is put under its name
  basis-with : (put : List ℕ) (q : Sequence) (signed : List Signed) → (put ≡ name → q.basis ≡ s.basis) → basis_at (with_sequence t put q signed) name ≡ Some s.basis
  basis-with put q signed own = sym (ap (option_map (λ (x : Sequence). x.basis)) (sequences-put t put q signed name)) ∙ by_name (bytes_eq put name) refl
    where
      by_name : (b : Bool) → bytes_eq put name ≡ b → option_map (λ (x : Sequence). x.basis) (if b then Some q else sequence_of t name) ≡ Some s.basis
      by_name true same = ap Some (own ((bytes_eq-Decides put name).0 same))
      by_name false other = ap (option_map (λ (x : Sequence). x.basis)) is

  basis-same : (put : List ℕ) (k : Sequence) → sequence_of t put ≡ Some k → put ≡ name → k.basis ≡ s.basis
  basis-same put k there same = let both : Some k ≡ Some s = sym there ∙ ap (sequence_of t) same ∙ is in let one : k ≡ s = cc in ap (λ (x : Sequence). x.basis) one

  basis-other : (put : List ℕ) (f : Sequence → Sequence) → ((x : Sequence) → (f x).basis ≡ x.basis) → (found : Option Sequence) → sequence_of t put ≡ found → basis_at (with_changed t put (option_map f found)) name ≡ Some s.basis
  basis-other put f same None there = ap (option_map (λ (x : Sequence). x.basis)) is
  basis-other put f same (Some k) there = basis-with put (f k) (signatures_of t put) (λ one. same k ∙ basis-same put k there one)

  basis-frozen : (put : List ℕ) (draft : Option (List ℕ)) → basis_at (with_frozen t put draft) name ≡ Some s.basis
  unfolding sequence_of
  basis-frozen put None = ap (option_map (λ (x : Sequence). x.basis)) is
  basis-frozen put (Some draft) = ap (option_map (λ (x : Sequence). x.basis)) is

  basis-signed : (put : List ℕ) (over : Inputs → Signed) (found : Option Sequence) → sequence_of t put ≡ found → basis_at (with_signature t put over found) name ≡ Some s.basis
  basis-signed put over None there = ap (option_map (λ (x : Sequence). x.basis)) is
  basis-signed put over (Some k) there = basis-with put k (signatures_of t put ++ over (inputs_in (bindings_of t) k) ∷ []) (basis-same put k there)

  basis-carried : (c : Change) → basis_at (carried t c) name ≡ Some s.basis
  unfolding sequence_of sequence_made
  basis-carried (change.Trace own signal) = ap (option_map (λ (x : Sequence). x.basis)) is
  basis-carried (change.Draft own text) = ap (option_map (λ (x : Sequence). x.basis)) is
  basis-carried (change.Freeze own version) = basis-frozen own (draft_of t own)
  basis-carried (change.Sequence own edition method version standards rows) =
      basis-with own (sequence_put t own method version standards rows) (signatures_of t own) (λ one. ap (basis_of t) one ∙ sym (basis_of-there t name s is))
  basis-carried (change.Events own edition row events) = basis-other own (λ x. record x { edition = edition_of t own + 1; rows = with_events x.rows row events }) (λ x. refl) (sequence_of t own) refl
  basis-carried (change.Rebind own edition version) = basis-other own (λ x. record x { edition = edition_of t own + 1; version = version }) (λ x. refl) (sequence_of t own) refl
  basis-carried (change.Sign sequence number basis moment own meaning text) = basis-signed sequence (signature number basis moment own meaning text) (sequence_of t sequence) refl

-- the basis rises by one exactly where the inputs differ
pub basis-applied : (t : TablesState) (c : Change) (name : List ℕ) (s : Sequence) → sequence_of t name ≡ Some s
    → option_map (λ (x : Sequence). x.basis) (sequence_of (applied t c) name) ≡ Some (s.basis + (if inputs_differ t (applied t c) name then 1 else 0))
unfolding sequence_of
basis-applied t c name s is =
    ap (option_map (λ (x : Sequence). x.basis)) (sequence_of-applied t c name) ∙ by_found (sequence_named (carried t c) name) refl (basis-carried t name s is c)
    ∙ ap (λ b. Some (s.basis + (if b then 1 else 0))) (sym (differ-applied t c name))
  where
    by_found : (found : Option NamedSequence) → sequence_named (carried t c) name ≡ found → option_map (λ (x : Sequence). x.basis) (option_map (λ (e : NamedSequence). e.sequence) found) ≡ Some s.basis
        → option_map (λ (x : Sequence). x.basis) (option_map (λ (e : NamedSequence). (risen t c e).sequence) found) ≡ Some (s.basis + (if inputs_differ t (carried t c) name then 1 else 0))
    by_found None there was = cc
    by_found (Some e) there was =
        let named_so : e.name ≡ name = named-name (carried t c).sequences name e there in
        let same : e.sequence.basis ≡ s.basis = cc in
        ap (λ n. Some (e.sequence.basis + (if inputs_differ t (carried t c) n then 1 else 0))) named_so ∙ ap (λ k. Some (k + (if inputs_differ t (carried t c) name then 1 else 0))) same
