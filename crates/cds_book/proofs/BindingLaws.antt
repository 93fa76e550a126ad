-- What bindings are resolved by after a change.
use Rattle.std.proofs.Common.{◌≡◌, ◌∙◌, ℕ, ◌+◌, Bool, true, false, inl, inr, List, [], ◌∷◌, ◌++◌, length, Option, Some, None, refl, sym, ap, subst, arith}
use Rattle.std.specs.Prelude.{is_some, if◌then◌else◌}
use Rattle.std.specs.Str.{bytes_eq}
use Rattle.std.proofs.Math.Path.{fun_ext}
use Rattle.std.proofs.lemmas.Bool.{cases_Bool}
use Rattle.std.proofs.lemmas.List.{length-append}
use Rattle.std.proofs.lemmas.Slice.Eq.{bytes_eq-Decides}
use Rattle.cds_trace.specs.Signal.{Signal}
use Rattle.cds_base.proofs.NamedLaws.{named-placed_other, bytes_eq-self}
use Rattle.cds_sign.specs.declared.command.Change.{Change}
use Rattle.cds_sign.specs.declared.command.Change.TheVariants as change
use Rattle.cds_sign.specs.declared.inputs.Inputs.{Inputs}
use Rattle.cds_sign.specs.declared.sequence.Sequence.{Sequence}
use Rattle.cds_sign.specs.declared.signed.Signed.{Signed}
use Rattle.cds_book.specs.Held.{bindings_over}
use Rattle.cds_book.specs.Inputs.{Bindings, bindings_of, inputs_in}
use Rattle.cds_book.specs.Plan.{carried, sequence_made, with_signals, with_method, with_frozen, with_sequence, with_changed, with_signature}
use Rattle.cds_book.specs.Raising.{Makes}
use Rattle.cds_book.specs.Tables.{NamedTraces, NamedMethod, NamedSequence, TablesState, signals_of, texts_of, sequence_of, signatures_of}
use Rattle.cds_book.specs.declared.over.Over.TheVariants as over
use Rattle.cds_book.proofs.LookLaws.{signals_of-found, texts_of-found, sequence_of-found}
use Rattle.cds_book.proofs.TraceLaws.{trace_name, signals_of-with}
use Rattle.cds_book.proofs.MethodLaws.{method_name, texts_of-with}
use Rattle.cds_book.proofs.SequenceLaws.{sequence_name, sequence_of-with}

-- bindings are the same where each part is
bindings_eq : (f g h k : List ℕ → ℕ) (p q : List ℕ → Option Sequence) → ((n : List ℕ) → f n ≡ g n) → ((n : List ℕ) → h n ≡ k n) → ((n : List ℕ) → p n ≡ q n)
    → let a : Bindings = record { traces = f; methods = h; sequences = p } in let b : Bindings = record { traces = g; methods = k; sequences = q } in a ≡ b
bindings_eq f g h k p q one two three = let x = fun_ext one in let y = fun_ext two in let z = fun_ext three in cc

-- names that pass the test are the same
same_name : (a b : List ℕ) → bytes_eq a b ≡ true → a ≡ b
same_name a b is = (bytes_eq-Decides a b).0 is

-- the test the other way round
turned : (a b : List ℕ) → bytes_eq a b ≡ false → bytes_eq b a ≡ false
turned a b other = elim (cases_Bool (bytes_eq b a)) [
  | inl same ↦ let one : a ≡ b = sym (same_name b a same) in let contrary : true ≡ false = sym (subst (λ n. bytes_eq a n ≡ true) one (bytes_eq-self a)) ∙ other in cc
  | inr differs ↦ differs
]

-- one more version of a trace
pub traces-more : (t : TablesState) (name : List ℕ) (signal : Signal) (n : List ℕ) → length (signals_of t n) + (if bytes_eq n name then 1 else 0) ≡ length (signals_of (with_signals t name (signals_of t name ++ signal ∷ [])) n)
traces-more t name signal n =
    let versions = signals_of t name ++ signal ∷ [] in
    let entry : NamedTraces = record { name = name; versions = versions } in
    elim (cases_Bool (bytes_eq n name)) [
      | inl same ↦
          let one = same_name n name same in
          let long : length (signals_of (with_signals t name versions) name) ≡ length (signals_of t name) + 1 = ap length (signals_of-with t name versions) ∙ length-append (signals_of t name) (signal ∷ []) in
          rw (same, one) (sym long)
      | inr other ↦
          let here = signals_of-found (with_signals t name versions) n _ (named-placed_other trace_name t.traces entry n (turned n name other)) ∙ sym (signals_of-found t n _ refl) in
          let zero : length (signals_of t n) + 0 ≡ length (signals_of t n) = omega arith in
          rw other (zero ∙ ap length (sym here))
    ]

pub bindings-trace : (t : TablesState) (name : List ℕ) (signal : Signal) → bindings_over t (over.Trace name) ≡ bindings_of (with_signals t name (signals_of t name ++ signal ∷ []))
unfolding bindings_over bindings_of texts_of sequence_of
bindings-trace t name signal = bindings_eq _ _ _ _ _ _ (traces-more t name signal) (λ n. refl) (λ n. refl)

-- the versions of a method that is put
pub methods-put : (t : TablesState) (name draft : List ℕ) (versions : List (List ℕ)) (more : ℕ) → length versions ≡ length (texts_of t name) + more → (n : List ℕ)
    → length (texts_of t n) + (if bytes_eq n name then more else 0) ≡ length (texts_of (with_method t name draft versions) n)
methods-put t name draft versions more grown n =
    let entry : NamedMethod = record { name = name; draft = draft; versions = versions } in
    elim (cases_Bool (bytes_eq n name)) [
      | inl same ↦
          let one = same_name n name same in
          rw (same, one) (sym (ap length (texts_of-with t name draft versions) ∙ grown))
      | inr other ↦
          let here = texts_of-found (with_method t name draft versions) n _ (named-placed_other method_name t.methods entry n (turned n name other)) ∙ sym (texts_of-found t n _ refl) in
          let zero : length (texts_of t n) + 0 ≡ length (texts_of t n) = omega arith in
          rw other (zero ∙ ap length (sym here))
    ]

-- none more are as many
none_more : (b : Bool) (n m : ℕ) → n + (if b then 0 else 0) ≡ m → n ≡ m
none_more true n m is = omega (arith, is)
none_more false n m is = omega (arith, is)

pub bindings-draft : (t : TablesState) (name text : List ℕ) → bindings_over t over.Nothing ≡ bindings_of (with_method t name text (texts_of t name))
unfolding bindings_over bindings_of signals_of sequence_of
bindings-draft t name text = bindings_eq _ _ _ _ _ _ (λ n. refl) (λ n. none_more (bytes_eq n name) _ _ (methods-put t name text (texts_of t name) 0 (omega arith) n)) (λ n. refl)

pub bindings-frozen : (t : TablesState) (name draft : List ℕ) → bindings_over t (over.Method name) ≡ bindings_of (with_method t name draft (texts_of t name ++ draft ∷ []))
unfolding bindings_over bindings_of signals_of sequence_of
bindings-frozen t name draft = bindings_eq _ _ _ _ _ _ (λ n. refl) (methods-put t name draft (texts_of t name ++ draft ∷ []) 1 (length-append (texts_of t name) (draft ∷ []))) (λ n. refl)

-- a freeze with a draft, and one without
pub bindings-freeze : (t : TablesState) (name : List ℕ) (found : Option (List ℕ)) → true ≡ is_some found → bindings_over t (over.Method name) ≡ bindings_of (with_frozen t name found)
bindings-freeze t name None is = cc
bindings-freeze t name (Some draft) is = bindings-frozen t name draft

pub bindings-no_freeze : (t : TablesState) (name : List ℕ) (found : Option (List ℕ)) → false ≡ is_some found → bindings_over t over.Nothing ≡ bindings_of (with_frozen t name found)
unfolding bindings_over
bindings-no_freeze t name None is = refl
bindings-no_freeze t name (Some draft) is = cc

-- the sequences once one is put
pub sequences-put : (t : TablesState) (name : List ℕ) (s : Sequence) (signed : List Signed) (n : List ℕ) → (if bytes_eq name n then Some s else sequence_of t n) ≡ sequence_of (with_sequence t name s signed) n
sequences-put t name s signed n =
    let entry : NamedSequence = record { name = name; sequence = s; signed = signed } in
    elim (cases_Bool (bytes_eq name n)) [
      | inl same ↦ rw (same, ← same_name name n same) (sym (sequence_of-with t name s signed))
      | inr other ↦ rw other (sequence_of-found t n _ refl ∙ sym (sequence_of-found (with_sequence t name s signed) n _ (named-placed_other sequence_name t.sequences entry n other)))
    ]

pub bindings-put : (t : TablesState) (name : List ℕ) (s : Sequence) (signed : List Signed) → bindings_over t (over.Sequence name s) ≡ bindings_of (with_sequence t name s signed)
unfolding bindings_over bindings_of signals_of texts_of
bindings-put t name s signed = bindings_eq _ _ _ _ _ _ (λ n. refl) (λ n. refl) (sequences-put t name s signed)

-- a change that makes a sequence, and one that makes none
pub bindings-made : (t : TablesState) (name : List ℕ) (s : Sequence) (made : Option Sequence) → Some s ≡ made → bindings_over t (over.Sequence name s) ≡ bindings_of (with_changed t name made)
bindings-made t name s None is = cc
bindings-made t name s (Some q) is = let one : s ≡ q = cc in rw one (bindings-put t name q (signatures_of t name))

pub bindings-unmade : (t : TablesState) (name : List ℕ) (made : Option Sequence) → None ≡ made → bindings_over t over.Nothing ≡ bindings_of (with_changed t name made)
unfolding bindings_over
bindings-unmade t name None is = refl
bindings-unmade t name (Some q) is = cc

-- what a change that makes a sequence makes other
pub bindings-carried : (t : TablesState) (c : Change) (own : List ℕ) (s : Sequence) → Makes own c → Some s ≡ sequence_made t c →
    bindings_over t (over.Sequence own s) ≡ bindings_of (carried t c)
bindings-carried t (change.Trace name signal) own s makes is = absurd makes
bindings-carried t (change.Draft name text) own s makes is = absurd makes
bindings-carried t (change.Freeze name version) own s makes is = absurd makes
bindings-carried t (change.Sequence name edition method version standards rows) own s makes is =
    rw (← makes) (bindings-made t name s (sequence_made t (change.Sequence name edition method version standards rows)) is)
bindings-carried t (change.Events name edition row events) own s makes is =
    rw (← makes) (bindings-made t name s (sequence_made t (change.Events name edition row events)) is)
bindings-carried t (change.Rebind name edition version) own s makes is =
    rw (← makes) (bindings-made t name s (sequence_made t (change.Rebind name edition version)) is)
bindings-carried t (change.Sign sequence number basis moment name meaning text) own s makes is = absurd makes

-- a signature leaves each sequence
pub same_sequence : (t : TablesState) (name : List ℕ) (s : Sequence) → sequence_of t name ≡ Some s → (signed : List Signed) (n : List ℕ) → sequence_of t n ≡ sequence_of (with_sequence t name s signed) n
same_sequence t name s is signed n = elim (cases_Bool (bytes_eq name n)) [
  | inl same ↦ sym (ap (sequence_of t) (same_name name n same)) ∙ is ∙ sym (ap (sequence_of (with_sequence t name s signed)) (sym (same_name name n same)) ∙ sequence_of-with t name s signed)
  | inr other ↦
      let put = sequences-put t name s signed n in
      rw other at put
]

pub bindings-sign : (t : TablesState) (name : List ℕ) (f : Inputs → Signed) (found : Option Sequence) → sequence_of t name ≡ found → bindings_over t over.Nothing ≡ bindings_of (with_signature t name f found)
unfolding bindings_over bindings_of signals_of texts_of
bindings-sign t name f None is = refl
bindings-sign t name f (Some s) is = bindings_eq _ _ _ _ _ _ (λ n. refl) (λ n. refl) (same_sequence t name s is (signatures_of t name ++ f (inputs_in (bindings_of t) s) ∷ []))
