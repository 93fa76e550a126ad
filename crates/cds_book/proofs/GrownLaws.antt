-- What sequences bind and list stays there where versions and sequences only become more.
use Rattle.std.proofs.Common.{ℕ, ◌≤◌, List, length, arith}
use Rattle.std.specs.Prelude.{All, IsSome}
use Rattle.std.proofs.lemmas.List.Elements.{All-weaker}
use Rattle.cds_sign.specs.declared.row.Row.{Row}
use Rattle.cds_sign.specs.declared.sequence.Sequence.{Sequence}
use Rattle.cds_book.specs.Kept.{AreThere, IsBound, Resolves}
use Rattle.cds_book.specs.Tables.{NamedSequence, TablesState, sequence_of, signals_of, texts_of}

-- no name has fewer versions, and each sequence is still there
pub record Grows (before after : TablesState) : Type 0 where
  pub traces : (name : List ℕ) → length (signals_of before name) ≤ length (signals_of after name)
  pub methods : (name : List ℕ) → length (texts_of before name) ≤ length (texts_of after name)
  pub sequences : (name : List ℕ) → IsSome (sequence_of before name) → IsSome (sequence_of after name)

-- a version that is there stays there
Resolves-grown : (few many version : ℕ) → few ≤ many → Resolves few version → Resolves many version
Resolves-grown few many version more is = let some = is.0 in let there = is.1 in (omega (arith, more, some), omega (arith, more, there))

module _ (t s : TablesState) (grows : Grows t s) where
  -- what a sequence binds stays there
  pub IsBound-grown : (q : Sequence) → IsBound t q → IsBound s q
  IsBound-grown q bound = record {
    method = Resolves-grown (length (texts_of t q.method)) _ q.version (grows.methods q.method) bound.method;
    rows = All-weaker (λ (r : Row). Resolves (length (signals_of t r.trace)) r.version) (λ r. Resolves (length (signals_of s r.trace)) r.version)
        (λ r h. Resolves-grown (length (signals_of t r.trace)) _ r.version (grows.traces r.trace) h) q.rows bound.rows;
  }

  pub AreThere-grown : (names : List (List ℕ)) → AreThere t names → AreThere s names
  AreThere-grown names there = All-weaker (λ n. IsSome (sequence_of t n)) (λ n. IsSome (sequence_of s n)) grows.sequences names there

  -- and so it is of each
  pub AreBound-grown : (es : List NamedSequence) → All (λ (e : NamedSequence). IsBound t e.sequence) es → All (λ (e : NamedSequence). IsBound s e.sequence) es
  AreBound-grown es bound = All-weaker (λ (e : NamedSequence). IsBound t e.sequence) (λ e. IsBound s e.sequence) (λ e h. IsBound-grown e.sequence h) es bound

  pub AreListed-grown : (es : List NamedSequence) → All (λ (e : NamedSequence). AreThere t e.sequence.standards) es → All (λ (e : NamedSequence). AreThere s e.sequence.standards) es
  AreListed-grown es listed = All-weaker (λ (e : NamedSequence). AreThere t e.sequence.standards) (λ e. AreThere s e.sequence.standards) (λ e h. AreThere-grown e.sequence.standards h) es listed
