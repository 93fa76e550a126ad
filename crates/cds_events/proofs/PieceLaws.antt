-- Forced pieces lie within the trace, and share at most an end.
use Rattle.std.proofs.Common.{◌≡◌, ℕ, ◌-◌, ◌<◌, ◌≤◌, Bool, true, false, ◌&&◌, List, [], ◌∷◌, ◌++◌, Option, Some, None}
use Rattle.std.proofs.Common.{length, get_or, fold, refl, arith, ◌∙◌, inl, inr}
use Rattle.std.specs.Prelude.{All, nat_lt, min, ◌⊎◌}
use Rattle.std.specs.List.{list_any}
use Rattle.std.specs.Option.{IfSome}
use Rattle.std.proofs.lemmas.Bool.{cases_Bool, ltb-true, and_cases, ltb-false}
use Rattle.std.proofs.lemmas.List.Elements.{All-nil, All-push}
use Rattle.cds_base.specs.declared.event.Event.{Event}
use Rattle.cds_base.specs.declared.event.Event.TheVariants.{Inhibit, Valley, Drop, Baseline, Slope, Skim}
use Rattle.cds_trace.specs.Signal.{Signal}
use Rattle.cds_events.specs.Pieces.{Piece}
use Rattle.cds_events.specs.Pieces.{sample_of_time, piece_between, piece_of, overlaps, and_piece, and_piece_of}
use Rattle.cds_events.specs.Pieces.{pieces_of}
use Rattle.cds_events.proofs.ListLaws.{none-any}

-- a piece of the trace
pub record IsPiece (signal : Signal) (piece : Piece) : Type 0 where
  pub order : piece.start < piece.end
  pub ends : piece.end < length signal.samples

-- two pieces are the same, or share at most an end
abbrev pub SameOrApart : Piece → Piece → Type 0
SameOrApart a b = (a.start ≡ b.start) ⊎ (overlaps a b ≡ false)

-- pieces of the trace that share at most an end
pub record ArePieces (signal : Signal) (pieces : List Piece) : Type 0 where
  pub each : All (IsPiece signal) pieces
  pub apart : All (λ a. All (SameOrApart a) pieces) pieces

overlaps-false : (a b : Piece) → overlaps a b ≡ false → (b.end ≤ a.start) ⊎ (a.end ≤ b.start)
overlaps-false a b e = elim (and_cases (nat_lt a.start b.end) (nat_lt b.start a.end) e) [
  | inl f ↦ inl (ltb-false a.start b.end f)
  | inr f ↦ inr (ltb-false b.start a.end f)
]

and-swap : (x y : Bool) → (x && y) ≡ (y && x)
and-swap true true = refl
and-swap true false = refl
and-swap false true = refl
and-swap false false = refl

overlaps-swap : (a b : Piece) → overlaps a b ≡ false → overlaps b a ≡ false
overlaps-swap a b e = and-swap (nat_lt b.start a.end) (nat_lt a.start b.end) ∙ e

-- of two of them that don't start at the same sample, the one that begins before the other ends lies before it
pub apart-order : (a b : Piece) → SameOrApart a b → ((a.start ≡ b.start) → ⊥) → a.start < b.end → a.end ≤ b.start
apart-order a b same_or_apart other l = elim same_or_apart [
  | inl same ↦ absurd (other same)
  | inr apart ↦ elim (overlaps-false a b apart) [
    | inl before ↦ absurd (omega arith)
    | inr behind ↦ behind
  ]
]

piece_between-is : (signal : Signal) (from to : ℕ) → 2 ≤ length signal.samples →
    IfSome (piece_between signal from to) (IsPiece signal)
piece_between-is signal from to enough =
    let start : ℕ = sample_of_time signal.period from in
    let end : ℕ = min (sample_of_time signal.period to) (length signal.samples - 1) in
    elim (cases_Bool (nat_lt start end)) [
      | inl e ↦ rw e (record { order = ltb-true start end e; ends = omega arith })
      | inr e ↦ rw e tt
    ]

piece_of-is : (signal : Signal) (event : Event) → 2 ≤ length signal.samples →
    IfSome (piece_of signal event) (IsPiece signal)
piece_of-is signal (Inhibit from to) enough = tt
piece_of-is signal (Valley from to) enough = tt
piece_of-is signal (Drop at) enough = tt
piece_of-is signal (Baseline from to) enough = piece_between-is signal from to enough
piece_of-is signal (Slope at on off) enough = tt
piece_of-is signal (Skim from to) enough = tt

add-piece : (signal : Signal) (pieces : List Piece) (piece : Piece) → ArePieces signal pieces → IsPiece signal piece →
    list_any (overlaps piece) pieces ≡ false → ArePieces signal (pieces ++ piece ∷ [])
add-piece signal pieces piece are is none =
    let free : All (λ other. overlaps piece other ≡ false) pieces = none-any (overlaps piece) pieces none in
    let from_piece : All (SameOrApart piece) (pieces ++ piece ∷ []) =
    All-push (SameOrApart piece) pieces piece (λ k d l. inr (free k d l)) (inl refl) in
    let from_others : All (λ a. All (SameOrApart a) (pieces ++ piece ∷ [])) pieces =
    λ k d l. All-push (SameOrApart (get_or pieces k d)) pieces piece (are.apart k d l)
    (inr (overlaps-swap piece (get_or pieces k d) (free k d l))) in
    record {
      each = All-push (IsPiece signal) pieces piece are.each is;
      apart = All-push (λ a. All (SameOrApart a) (pieces ++ piece ∷ [])) pieces piece from_others from_piece;
    }

and_piece-are : (signal : Signal) (pieces : List Piece) (piece : Option Piece) → ArePieces signal pieces →
    IfSome piece (IsPiece signal) → ArePieces signal (and_piece pieces piece)
and_piece-are signal pieces None are is = are
and_piece-are signal pieces (Some piece) are is = elim (cases_Bool (list_any (overlaps piece) pieces)) [
  | inl e ↦ rw e are
  | inr e ↦ rw e (add-piece signal pieces piece are is e)
]

fold-are : (signal : Signal) (events : List Event) (pieces : List Piece) → 2 ≤ length signal.samples →
    ArePieces signal pieces → ArePieces signal (fold (and_piece_of signal) pieces events)
fold-are signal [] pieces enough are = are
fold-are signal (event ∷ events) pieces enough are =
    fold-are signal events (and_piece_of signal pieces event) enough
    (and_piece-are signal pieces (piece_of signal event) are (piece_of-is signal event enough))

pub pieces_of-are : (signal : Signal) (events : List Event) → 2 ≤ length signal.samples →
    ArePieces signal (pieces_of signal events)
pieces_of-are signal events enough =
    fold-are signal events [] enough (record {
      each = All-nil (IsPiece signal);
      apart = All-nil
          (λ a. All (SameOrApart a) []);
    })
