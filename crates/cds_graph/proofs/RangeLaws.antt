-- Sequences that keep the rules of the tables are within their ranges, as their rows are found.
use Rattle.std.proofs.Common.{◌≡◌, ◌∙◌, ℕ, ◌+◌, ◌<◌, ◌≤◌, ◌==◌, zero, suc, Bool, true, false, List, [], ◌∷◌}
use Rattle.std.proofs.Common.{length, map, Option}
use Rattle.std.proofs.Common.{Some, None, Result, Ok, Err, option_map, find, ok_or, refl, sym, ap, subst}
use Rattle.std.proofs.Common.{if◌then◌else◌}
use Rattle.std.proofs.Common.{nat_lt, arith, true≢false}
use Rattle.std.specs.Prelude.{All, IfSome, IfOk, IsSome}
use Rattle.std.specs.List.{filter_map, cons_option}
use Rattle.std.proofs.lemmas.List.{length-map}
use Rattle.std.proofs.lemmas.List.Elements.{All-head, All-tail, All-cons, All-nil, All-map, All-weaker}
use Rattle.cds_base.specs.declared.peak.Missing.{Missing}
use Rattle.cds_base.specs.Answers.{◌>>=◌}
use Rattle.cds_base.specs.declared.peak.Missing.TheVariants.{NoBlank, NoNoise}
use Rattle.cds_base.proofs.NamedLaws.{named-All}
use Rattle.cds_figures.specs.Noise.{noise_of, noise_of_samples, range_of, samples_in}
use Rattle.cds_sign.specs.Ranges.{IsRow}
use Rattle.cds_sign.specs.declared.inputs.Inputs.{Inputs}
use Rattle.cds_sign.specs.declared.inputs.Listed.{Listed}
use Rattle.cds_sign.specs.declared.inputs.ListedRow.{ListedRow}
use Rattle.cds_sign.specs.declared.limits.TheConstants.{MOST_ROWS}
use Rattle.cds_sign.specs.declared.row.Row.{Row}
use Rattle.cds_sign.specs.declared.sequence.Sequence.{Sequence}
use Rattle.cds_trace.specs.Signal.{Signal}
use Rattle.cds_book.specs.Inputs.{bindings_of, resolved, row_resolved, row_listed, is_standard, listed_as, listed_of}
use Rattle.cds_book.specs.Inputs.{inputs_in}
use Rattle.cds_book.specs.Tables.{TablesState, NamedSequence, sequence_of, sequence_named}
use Rattle.cds_book.specs.Kept.{IsSequenceEntry, IsTables}
use Rattle.cds_graph.specs.Building.{AreRanged}
use Rattle.cds_graph.specs.Found.{FoundRow, FoundStandard, FoundListed, found_of, row_found, standard_found}
use Rattle.cds_graph.specs.Found.{listed_found}
use Rattle.cds_graph.specs.Keys.{all_inputs}
use Rattle.cds_graph.specs.Noise.{NoiseWindow, noise_in, window_of}
use Rattle.cds_graph.specs.Ranges.{AreAmounts, StateAmounts, IsInRange}
use Rattle.cds_graph.specs.Recorded.{RecordedRow, RecordedStandard, recorded_of, recorded_in, listed_in}
use Rattle.cds_graph.specs.Recorded.{standard_in, fields_in}
use Rattle.cds_graph.specs.Rows.{is_blank}

-- the standards of a sequence state amounts
amounts-listed : (t : TablesState) (rows : List Row) → All (λ (r : Row). AreAmounts r.amounts) rows →
    All (λ (r : ListedRow). AreAmounts r.amounts) (filter_map (row_listed (bindings_of t)) rows)
unfolding row_listed
amounts-listed t [] all = All-nil (λ (r : ListedRow). AreAmounts r.amounts)
amounts-listed t (row ∷ rows) all =
    by_kind (is_standard row.kind) (All-head (λ (r : Row). AreAmounts r.amounts) row rows all)
    (amounts-listed t rows (All-tail (λ (r : Row). AreAmounts r.amounts) row rows all))
  where
    listed : ListedRow
    listed = record {
      trace = row.trace;
      version = resolved ((bindings_of t).traces row.trace) row.version;
      used = row.used;
      amounts = row.amounts;
      events = row.events;
    }

    by_kind : (b : Bool) → AreAmounts row.amounts →
        All (λ (r : ListedRow). AreAmounts r.amounts) (filter_map (row_listed (bindings_of t)) rows) →
        All (λ (r : ListedRow). AreAmounts r.amounts)
        (cons_option (if b then Some listed else None) (filter_map (row_listed (bindings_of t)) rows))
    by_kind true here later = All-cons (λ (r : ListedRow). AreAmounts r.amounts) listed _ here later
    by_kind false here later = later

-- the listed sequences state amounts
standards-amounts : (t : TablesState) → IsTables t → (names : List (List ℕ)) →
    All (λ (listed : Listed). All (λ (r : ListedRow). AreAmounts r.amounts) listed.rows)
    (filter_map (listed_of (bindings_of t)) names)
unfolding listed_of listed_as bindings_of sequence_of
standards-amounts t ready [] = All-nil (λ (l : Listed). All (λ (r : ListedRow). AreAmounts r.amounts) l.rows)
standards-amounts t ready (name ∷ names) = by_found (sequence_named t name) refl (standards-amounts t ready names)
  where
    In : Listed → Type 0
    In l = All (λ (r : ListedRow). AreAmounts r.amounts) l.rows

    by_found : (found : Option NamedSequence) → sequence_named t name ≡ found →
        All In (filter_map (listed_of (bindings_of t)) names) →
        All In (cons_option
        (option_map (listed_as (bindings_of t) name) (option_map (λ (e : NamedSequence). e.sequence) found))
        (filter_map (listed_of (bindings_of t)) names))
    by_found None there later = later
    by_found (Some e) there later =
        let kept = named-All (λ (x : NamedSequence). x.name) IsSequenceEntry t.sequences name e ready.sequences.each
        there in
        All-cons In (listed_as (bindings_of t) name e.sequence) _
        (amounts-listed t e.sequence.rows
        (All-weaker IsRow (λ (r : Row). AreAmounts r.amounts) (λ r is. is.each) e.sequence.rows kept.rows.ranges.each))
        later

-- the inputs of all sequences are within their ranges
pub all-ranged : (t : TablesState) → IsTables t → All AreRanged (all_inputs t)
unfolding inputs_in row_resolved
all-ranged t ready =
    All-map AreRanged (λ (e : NamedSequence). inputs_in (bindings_of t) e.sequence) t.sequences
    (All-weaker IsSequenceEntry
    (λ (e : NamedSequence). AreRanged (inputs_in (bindings_of t) e.sequence))
    (λ e is. record {
      few = rw (length-map e.sequence.rows (row_resolved (bindings_of t))) is.rows.ranges.count.few;
      diluted = All-map (λ (r : Row). 1 ≤ r.v) (row_resolved (bindings_of t)) e.sequence.rows
          (All-weaker IsRow (λ (r : Row). 1 ≤ r.v) (λ r one. one.v.enough) e.sequence.rows is.rows.ranges.each);
      standards = standards-amounts t ready e.sequence.standards;
    })
    t.sequences ready.sequences.each)

-- a noise is above 0
noise_of-some : (signal : Signal) (from to : ℕ) → IfSome (noise_of signal from to) (λ range. 0 < range)
noise_of-some signal from to =
    by_count (nat_lt (length (samples_in signal from to (length signal.samples))) 2)
    (range_of (samples_in signal from to (length signal.samples)))
  where
    by_range : (range : ℕ) (b : Bool) → (range == 0) ≡ b →
        IfSome (if b then None else Some range) (λ range. 0 < range)
    by_range range true is = tt
    by_range zero false is = absurd (true≢false is)
    by_range (suc r) false is = omega arith

    by_count : (b : Bool) (range : ℕ) →
        IfSome (if b then None else (if range == 0 then None else Some range)) (λ range. 0 < range)
    by_count true range = tt
    by_count false range = by_range range (range == 0) refl

-- and so is that of a sequence
noise_in-some : (t : TablesState) (inputs : Inputs) → IfOk (noise_in (recorded_of t inputs)) (λ range. 0 < range)
unfolding noise_in
noise_in-some t inputs =
    by_blank (find (λ (r : RecordedRow). is_blank r.row.kind) (map (recorded_in t) inputs.rows))
    (window_of (fields_in t inputs.method inputs.version))
  where
    by_noise : (o : Option ℕ) → IfSome o (λ range. 0 < range) → IfOk (ok_or o NoNoise) (λ range. 0 < range)
    by_noise None is = tt
    by_noise (Some range) is = is

    by_blank : (o : Option RecordedRow) (w : Option NoiseWindow) → IfOk (ok_or o NoBlank >>= λ blank.
        ok_or w NoNoise >>= λ window. ok_or (noise_of blank.signal window.from_ms window.to_ms) NoNoise)
        (λ range. 0 < range)
    by_blank None w = tt
    by_blank (Some blank) None = tt
    by_blank (Some blank) (Some w) = by_noise _ (noise_of-some blank.signal w.from_ms w.to_ms)

-- a sequence of such inputs, as its rows are found, is within its ranges
pub found_of-ranged : (t : TablesState) (inputs : Inputs) → AreRanged inputs →
    IsInRange (found_of (recorded_of t inputs))
found_of-ranged t inputs ranged =
    let fields = fields_in t inputs.method inputs.version in
    record {
      few = rw (
        length-map (map (recorded_in t) inputs.rows) (row_found fields),
        length-map inputs.rows (recorded_in
            t),
      )
          ranged.few;
      diluted = All-map (λ (r : FoundRow). 1 ≤ r.row.v) (row_found fields) (map (recorded_in t) inputs.rows)
          (All-map (λ (r : RecordedRow). 1 ≤ r.row.v) (recorded_in t) inputs.rows ranged.diluted);
      standards = All-map StateAmounts listed_found (map (listed_in t) inputs.standards)
          (All-map (λ l. StateAmounts (listed_found l)) (listed_in t) inputs.standards
          (All-weaker (λ (l : Listed). All (λ (r : ListedRow). AreAmounts r.amounts) l.rows) _
          (λ l all. All-map (λ (s : FoundStandard). AreAmounts s.row.amounts)
          (standard_found (fields_in t l.method l.version)) (map (standard_in t) l.rows)
          (All-map (λ (s : RecordedStandard). AreAmounts s.row.amounts) (standard_in t) l.rows all))
          inputs.standards ranged.standards));
      noise = noise_in-some t inputs;
    }
