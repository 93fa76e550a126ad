-- No change takes away what sequences bind and list.
use Rattle.std.proofs.Common.{◌≡◌, ℕ, ◌+◌, ◌≤◌, Bool, true, false, inl, inr, List, [], ◌∷◌, ◌++◌, length, Some, refl, sym, subst, arith}
use Rattle.std.specs.Prelude.{IsSome, if◌then◌else◌}
use Rattle.std.specs.Str.{bytes_eq}
use Rattle.std.proofs.lemmas.List.{length-append}
use Rattle.std.proofs.lemmas.List.Elements.{All-weaker}
use Rattle.cds_trace.specs.Signal.{Signal}
use Rattle.cds_base.proofs.NamedLaws.{All-placed}
use Rattle.cds_sign.specs.declared.sequence.Sequence.{Sequence}
use Rattle.cds_sign.specs.declared.signed.Signed.{Signed}
use Rattle.cds_book.specs.Kept.{IsTables, IsBound, AreBound, AreListed, AreThere}
use Rattle.cds_book.specs.Plan.{with_signals, with_method, with_sequence}
use Rattle.cds_book.specs.Tables.{NamedSequence, TablesState, sequence_of, signals_of, texts_of}
use Rattle.cds_book.proofs.BindingLaws.{traces-more, methods-put, sequences-put}
use Rattle.cds_book.proofs.FitLaws.{Fits, IsListable}
use Rattle.cds_book.proofs.GrownLaws.{Grows, IsBound-grown, AreBound-grown, AreListed-grown}
use Rattle.cds_book.proofs.SequenceLaws.{sequence_name, sequence_of-with}

-- as many as before, and maybe some more
no_fewer : (n more m : ℕ) → n + more ≡ m → n ≤ m
no_fewer n more m is = omega (arith, is)

same : (n : ℕ) → n ≤ n
same n = omega arith

-- one more version of a trace
pub Grows-trace : (t : TablesState) (name : List ℕ) (signal : Signal) → Grows t (with_signals t name (signals_of t name ++ signal ∷ []))
unfolding texts_of sequence_of
Grows-trace t name signal = record {
  traces = λ n. no_fewer (length (signals_of t n)) _ _ (traces-more t name signal n);
  methods = λ n. same (length (texts_of t n));
  sequences = λ n there. there;
}

-- another draft, and one more version of a method
Grows-method : (t : TablesState) (name draft : List ℕ) (versions : List (List ℕ)) (more : ℕ) → length versions ≡ length (texts_of t name) + more → Grows t (with_method t name draft versions)
unfolding signals_of sequence_of
Grows-method t name draft versions more grown = record {
  traces = λ n. same (length (signals_of t n));
  methods = λ n. no_fewer (length (texts_of t n)) _ _ (methods-put t name draft versions more grown n);
  sequences = λ n there. there;
}

pub Grows-draft : (t : TablesState) (name text : List ℕ) → Grows t (with_method t name text (texts_of t name))
Grows-draft t name text = Grows-method t name text (texts_of t name) 0 (omega arith)

pub Grows-frozen : (t : TablesState) (name draft : List ℕ) → Grows t (with_method t name draft (texts_of t name ++ draft ∷ []))
Grows-frozen t name draft = Grows-method t name draft (texts_of t name ++ draft ∷ []) 1 (length-append (texts_of t name) (draft ∷ []))

-- a sequence that is put
module _ (t : TablesState) (kept : IsTables t) (name : List ℕ) (s : Sequence) (signed : List Signed) (fits : Fits t name s) where
  abbrev after : TablesState
  after = with_sequence t name s signed

  abbrev own : NamedSequence
  own = record { name = name; sequence = s; signed = signed }

  Grows-with : Grows t after
  unfolding signals_of texts_of
  Grows-with = record {
    traces = λ n. same (length (signals_of t n));
    methods = λ n. same (length (texts_of t n));
    sequences = λ n there. subst IsSome (sequences-put t name s signed n) (by_name n (bytes_eq name n) there);
  }
    where
      by_name : (n : List ℕ) (b : Bool) → IsSome (sequence_of t n) → IsSome (if b then Some s else sequence_of t n)
      by_name n true there = refl
      by_name n false there = there

  -- what each sequence binds is there
  pub bound-with : AreBound after
  bound-with = All-placed sequence_name (λ (e : NamedSequence). IsBound after e.sequence) t.sequences own (AreBound-grown t after Grows-with t.sequences kept.bound) (IsBound-grown t after Grows-with s fits.bound)

  listable-there : (n : List ℕ) → IsListable t name n → IsSome (sequence_of after n)
  listable-there n (inl there) = Grows-with.sequences n there
  listable-there n (inr is) = subst (λ k. IsSome (sequence_of after k)) (sym is) (subst IsSome (sym (sequence_of-with t name s signed)) refl)

  -- and what each lists
  pub listed-with : AreListed after
  listed-with = All-placed sequence_name (λ (e : NamedSequence). AreThere after e.sequence.standards) t.sequences own (AreListed-grown t after Grows-with t.sequences kept.listed)
      (All-weaker (IsListable t name) (λ n. IsSome (sequence_of after n)) listable-there s.standards fits.listed)
