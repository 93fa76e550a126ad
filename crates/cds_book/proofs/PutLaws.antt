-- What the tables are seen as once a sequence is put or signed, in the room that was taken.
use Rattle.std.proofs.Common.{◌≡◌, ◌∙◌, ℕ, ◌+◌, Bool, List, [], ◌∷◌, ◌++◌, length, map, Option, Some, None, option_map, unwrap_or, Vec, Global, refl, sym, ap, subst}
use Rattle.std.specs.Prelude.{IfSome, if◌then◌else◌}
use Rattle.std.proofs.lemmas.List.{length-map}
use Rattle.std.proofs.lemmas.Simd.{map-map}
use Rattle.cds_base.specs.Named.{named, placed, AreRising, StandsAt}
use Rattle.cds_base.proofs.NamedLaws.{map-placed, named-map}
use Rattle.cds_sign.specs.declared.command.Change.{Change}
use Rattle.cds_sign.specs.declared.sequence.Sequence.{Sequence}
use Rattle.cds_sign.specs.declared.signed.Signed.{Signed}
use Rattle.cds_book.specs.Held.{HeldSequence, held_name, traces_shown, method_shown, sequence_shown, room_shown, state_held, tables_held, IsHeld, HasRoom}
use Rattle.cds_book.specs.Kept.{IsTables, trace_versions_in_all, samples_in_all, method_versions_in_all}
use Rattle.cds_book.specs.Plan.{applied, carried, inputs_differ, raised, rises_of, room_of, Accepts}
use Rattle.cds_book.specs.Raising.{raised_by, Makes, Signs}
use Rattle.cds_book.specs.Tables.{NamedSequence, TablesState, TablesValue, Room, sequence_room, sign_room, sequence_named, sequence_of, signatures_of}
use Rattle.cds_book.specs.declared.room.Taken.{Taken}
use Rattle.cds_book.specs.declared.room.Taken.TheVariants as taken
use Rattle.cds_book.specs.declared.tables.Tables.TheInside.{Inside}
use Rattle.cds_book.proofs.AcceptedLaws.{MakesSequence, MakesSignature, MakesSequence-accepted, MakesSignature-accepted}
use Rattle.cds_book.proofs.HeldLaws.{state_eq, value_eq, raised_all, raised-each, HasRoom-taken, room_name, Accepts-held}
use Rattle.cds_book.proofs.KeptLaws.{IsTables-applied}
use Rattle.cds_book.proofs.LookLaws.{rising_sequences}
use Rattle.cds_book.proofs.RaiseLaws.{sequence_eq}
use Rattle.cds_book.proofs.RaisedLaws.{applied-same}
use Rattle.cds_book.proofs.SequenceLaws.{sequence_name}

-- the room that was taken is that of the change
pub room-held : (a : Inside) (v : TablesValue) → tables_held a ≡ v → (c : Change) (r : Option Taken) (room : Room) → v.room ≡ room_of v.state c → r ≡ a.room → room_of (state_held a) c ≡ Some room → option_map room_shown r ≡ Some room
room-held a v view_is c r room is_room is needs =
    ap (option_map room_shown) is ∙ ap (λ (w : TablesValue). w.room) view_is ∙ is_room ∙ ap (λ (w : TablesValue). room_of w.state c) (sym view_is) ∙ needs

-- b is a with other sequences
pub record PutsSequences (a b : Inside) (c : Change) : Type 0 where
  pub sequences : map sequence_shown b.sequences.entries.items ≡ (applied (state_held a) c).sequences
  pub kept_traces : (applied (state_held a) c).traces ≡ (state_held a).traces
  pub kept_methods : (applied (state_held a) c).methods ≡ (state_held a).methods
  pub traces : b.traces.entries.items ≡ a.traces.entries.items
  pub methods : b.methods.entries.items ≡ a.methods.entries.items
  pub trace_versions : b.trace_versions ≡ a.trace_versions
  pub samples : b.samples ≡ a.samples
  pub method_versions : b.method_versions ≡ a.method_versions
  pub room : b.room ≡ None

module _ (a b : Inside) (v : TablesValue) (view_is : tables_held a ≡ v) (c : Change) (puts : PutsSequences a b c) where
  -- what the tables then hold
  state-PutsSequences : state_held b ≡ applied (state_held a) c
  unfolding applied
  state-PutsSequences = state_eq _ _ _ _ _ _ (ap (map traces_shown) puts.traces ∙ sym puts.kept_traces) (ap (map method_shown) puts.methods ∙ sym puts.kept_methods) puts.sequences

  pub view-PutsSequences : tables_held b ≡ record { state = applied v.state c; room = None }
  view-PutsSequences =
      let state : state_held b ≡ applied v.state c = state-PutsSequences ∙ ap (λ (w : TablesValue). applied w.state c) view_is in
      let room : option_map room_shown b.room ≡ None = ap (option_map room_shown) puts.room in
      value_eq (state_held b) (applied v.state c) (option_map room_shown b.room) None state room

  -- and that all is kept
  pub IsHeld-PutsSequences : IsHeld a → Accepts v.state c → IsHeld b
  IsHeld-PutsSequences held accepts = record {
    tables = subst IsTables (sym state-PutsSequences) (IsTables-applied (state_held a) c held.tables (Accepts-held a v c view_is accepts));
    trace_versions = puts.trace_versions ∙ held.trace_versions ∙ ap trace_versions_in_all (ap (map traces_shown) (sym puts.traces));
    samples = puts.samples ∙ held.samples ∙ ap samples_in_all (ap (map traces_shown) (sym puts.traces));
    method_versions = puts.method_versions ∙ held.method_versions ∙ ap method_versions_in_all (ap (map method_shown) (sym puts.methods));
    room = subst (λ o. IfSome o (HasRoom b)) (sym puts.room) tt;
  }

-- raising bases leaves the names
raised_by-names : (bs : List Bool) (es : List NamedSequence) → map sequence_name (raised_by bs es) ≡ map sequence_name es
raised_by-names [] es = refl
raised_by-names (b ∷ bs) [] = refl
raised_by-names (b ∷ bs) (e ∷ es) = ap (λ ns. e.name ∷ ns) (raised_by-names bs es)

-- the names still rise
pub rising-raised : (a : Inside) → IsHeld a → (bs : List Bool) (hs : List HeldSequence) → map sequence_shown hs ≡ raised_by bs (map sequence_shown a.sequences.entries.items) → AreRising (map held_name hs)
rising-raised a held bs hs shown =
    let names : map sequence_name (map sequence_shown hs) ≡ map sequence_name (map sequence_shown a.sequences.entries.items) = ap (map sequence_name) shown ∙ raised_by-names bs (map sequence_shown a.sequences.entries.items) in
    subst AreRising (sym (sym (map-map sequence_name sequence_shown hs) ∙ names ∙ map-map sequence_name sequence_shown a.sequences.entries.items)) (rising_sequences a held)

-- for each sequence it is told whether its basis rises
pub many-rises : (a : Inside) (c : Change) (rises : List Bool) → rises ≡ rises_of (state_held a) c → length rises ≡ length a.sequences.entries.items
many-rises a c rises flags =
    ap length flags ∙ length-map (state_held a).sequences (λ (e : NamedSequence). inputs_differ (state_held a) (carried (state_held a) c) e.name) ∙ length-map a.sequences.entries.items sequence_shown

-- the signatures of a name, once bases are raised
signed-raised : (t : TablesState) (c : Change) (name : List ℕ) → unwrap_or (option_map (λ (e : NamedSequence). e.signed) (named sequence_name (raised_all t c) name)) [] ≡ signatures_of t name
unfolding signatures_of
signed-raised t c name =
    let raise : NamedSequence → NamedSequence = λ e. raised (inputs_differ t (carried t c) e.name) e in
    ap (λ (o : Option NamedSequence). unwrap_or (option_map (λ (e : NamedSequence). e.signed) o) []) (named-map raise sequence_name t.sequences name) ∙ by_found (sequence_named t name)
  where
    by_found : (found : Option NamedSequence) → unwrap_or (option_map (λ (e : NamedSequence). e.signed) (option_map (λ (e : NamedSequence). raised (inputs_differ t (carried t c) e.name) e) found)) [] ≡ unwrap_or (option_map (λ (e : NamedSequence). e.signed) found) []
    by_found None = refl
    by_found (Some e) = refl

-- a sequence that is put among those whose bases were raised
put-raised : (t : TablesState) (c : Change) (name : List ℕ) (m : MakesSequence t c name) (es : List NamedSequence) (s : Sequence) → es ≡ raised_all t c
    → s ≡ record m.made { basis = m.made.basis + (if inputs_differ t (carried t c) name then 1 else 0) }
    → placed sequence_name es (record { name = name; sequence = s; signed = unwrap_or (option_map (λ (e : NamedSequence). e.signed) (named sequence_name es name)) [] }) ≡ (applied t c).sequences
unfolding applied
put-raised t c name m es s es_are s_is =
    let raise : NamedSequence → NamedSequence = λ e. raised (inputs_differ t (carried t c) e.name) e in
    let entry : NamedSequence = record { name = name; sequence = m.made; signed = signatures_of t name } in
    ap (λ (xs : List NamedSequence). placed sequence_name xs (record { name = name; sequence = s; signed = unwrap_or (option_map (λ (e : NamedSequence). e.signed) (named sequence_name xs name)) [] })) es_are
    ∙ ap (placed sequence_name (raised_all t c)) (sequence_eq name name s _ _ _ refl s_is (signed-raised t c name))
    ∙ sym (map-placed raise sequence_name t.sequences entry)
    ∙ sym (ap (λ (x : TablesState). map raise x.sequences) m.carried_is)

-- the room that was taken for a sequence
pub record TookSequence (a : Inside) (c : Change) (name : List ℕ) (made : Sequence) (rises : List Bool) : Type 0 where
  pub makes : MakesSequence (state_held a) c name
  pub made_is : made ≡ record makes.made { basis = makes.made.basis + (if inputs_differ (state_held a) (carried (state_held a) c) name then 1 else 0) }
  pub rises_are : rises ≡ rises_of (state_held a) c

module _ (a : Inside) (v : TablesValue) (view_is : tables_held a ≡ v) (held : IsHeld a) (c : Change) (name : List ℕ) (accepts : Accepts v.state c) (is_room : v.room ≡ room_of v.state c) where
  room_held : v.room ≡ room_of (state_held a) c
  room_held = is_room ∙ ap (λ (w : TablesValue). room_of w.state c) (sym view_is)

  pub took-sequence : Makes name c → (n : List ℕ) (made : Sequence) (rises : Vec Bool Global) (x : Taken) → Some x ≡ a.room → x ≡ taken.Sequence n made rises → TookSequence a c name made rises.items
  took-sequence makes n made rises x is same =
      let m = MakesSequence-accepted (state_held a) held.tables c name makes (Accepts-held a v c view_is accepts) in
      let s : Sequence = record m.made { basis = m.made.basis + (if inputs_differ (state_held a) (carried (state_held a) c) name then 1 else 0) } in
      let room = sequence_room name s (rises_of (state_held a) c) in
      let shown : sequence_room n made rises.items ≡ room = ap room_shown (sym same) ∙ room_name a v room x view_is (room_held ∙ m.room_is) is in
      let one : made ≡ s = cc in
      let flags : rises.items ≡ rises_of (state_held a) c = cc in
      record { makes = m; made_is = one; rises_are = flags }

  -- and for a signature
  pub took-signature : (signs : Signs name c) (n : List ℕ) (at : ℕ) (signed : Signed) (x : Taken) → Some x ≡ a.room → x ≡ taken.Sign n at signed
      → StandsAt held_name a.sequences.entries.items name at × (signed ≡ (MakesSignature-accepted (state_held a) c name signs (Accepts-held a v c view_is accepts)).signed)
  took-signature signs n at signed x is same =
      let m = MakesSignature-accepted (state_held a) c name signs (Accepts-held a v c view_is accepts) in
      let room = sign_room name m.signed in
      let shown : sign_room n signed ≡ room = ap room_shown (sym same) ∙ room_name a v room x view_is (room_held ∙ m.room_is) is in
      let one : n ≡ name = cc in
      let two : signed ≡ m.signed = cc in
      (subst (λ k. StandsAt held_name a.sequences.entries.items k at) one (HasRoom-taken a x (taken.Sign n at signed) held is same).0, two)

-- the sequences once one is put in the room that was taken
pub sequences-put : (a : Inside) (c : Change) (name : List ℕ) (made : Sequence) (rises : List Bool) → (took : TookSequence a c name made rises) → (hs : List HeldSequence) (ss : List NamedSequence)
    → map sequence_shown hs ≡ raised_by rises (map sequence_shown a.sequences.entries.items)
    → ss ≡ placed sequence_name (map sequence_shown hs) (record { name = name; sequence = made; signed = unwrap_or (option_map (λ (e : NamedSequence). e.signed) (named sequence_name (map sequence_shown hs) name)) [] })
    → ss ≡ (applied (state_held a) c).sequences
sequences-put a c name made rises took hs ss shown put =
    let each = raised-each a (tables_held a) refl c rises took.rises_are in
    put ∙ put-raised (state_held a) c name took.makes (map sequence_shown hs) made (shown ∙ each) took.made_is

-- a change of a sequence leaves the traces and the methods
pub PutsSequences-made : (a b : Inside) (c : Change) (name : List ℕ) → MakesSequence (state_held a) c name → map sequence_shown b.sequences.entries.items ≡ (applied (state_held a) c).sequences
    → b.traces.entries.items ≡ a.traces.entries.items → b.methods.entries.items ≡ a.methods.entries.items → b.trace_versions ≡ a.trace_versions → b.samples ≡ a.samples → b.method_versions ≡ a.method_versions → b.room ≡ None → PutsSequences a b c
unfolding applied
PutsSequences-made a b c name m sequences traces methods versions samples texts room = record {
  sequences = sequences;
  kept_traces = ap (λ (s : TablesState). s.traces) m.carried_is;
  kept_methods = ap (λ (s : TablesState). s.methods) m.carried_is;
  traces = traces;
  methods = methods;
  trace_versions = versions;
  samples = samples;
  method_versions = texts;
  room = room;
}

-- and so does a signature, which raises no basis
pub PutsSequences-signed : (a b : Inside) (c : Change) (name : List ℕ) → (m : MakesSignature (state_held a) c name) → (signed : Signed) → signed ≡ m.signed
    → ((s : Sequence) → option_map (λ (e : NamedSequence). e.sequence) (named sequence_name (map sequence_shown a.sequences.entries.items) name) ≡ Some s
    → map sequence_shown b.sequences.entries.items ≡ placed sequence_name (map sequence_shown a.sequences.entries.items)
    (record { name = name; sequence = s; signed = unwrap_or (option_map (λ (e : NamedSequence). e.signed) (named sequence_name (map sequence_shown a.sequences.entries.items) name)) [] ++ signed ∷ [] }))
    → b.traces.entries.items ≡ a.traces.entries.items → b.methods.entries.items ≡ a.methods.entries.items → b.trace_versions ≡ a.trace_versions → b.samples ≡ a.samples → b.method_versions ≡ a.method_versions → b.room ≡ None → PutsSequences a b c
unfolding sequence_of signatures_of
PutsSequences-signed a b c name m signed is put traces methods versions samples texts room =
    let t = state_held a in
    let after = applied-same t c m.same ∙ m.carried_is in
    let entry = ap (λ (x : Signed). placed sequence_name t.sequences (record { name = name; sequence = m.sequence; signed = signatures_of t name ++ x ∷ [] })) is in
    record {
      sequences = put m.sequence m.there ∙ entry ∙ sym (ap (λ (s : TablesState). s.sequences) after);
      kept_traces = ap (λ (s : TablesState). s.traces) after;
      kept_methods = ap (λ (s : TablesState). s.methods) after;
      traces = traces;
      methods = methods;
      trace_versions = versions;
      samples = samples;
      method_versions = texts;
      room = room;
    }
