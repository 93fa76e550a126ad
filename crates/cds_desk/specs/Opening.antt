-- What the machine holds that is opened with a list of records.
use Rattle.std.specs.Prelude.{◌≡◌, ℕ, ◌+◌, ⊤, List, [], ◌∷◌, ◌++◌, length, Option, Some, option_map}
use Rattle.cds_book.specs.Kept.{IsMethod}
use Rattle.cds_book.specs.Plan.{Accepts}
use Rattle.cds_codec.specs.Record.{IsRecord}
use Rattle.cds_report.specs.Reported.{reported_of}
use Rattle.cds_report.specs.SignedText.{Signature, signed_text}
use Rattle.cds_sign.specs.declared.command.Change.{Change}
use Rattle.cds_sign.specs.declared.command.Change.TheVariants as change
use Rattle.cds_desk.specs.State.{State, empty_state, with_change}

-- the text of a signature of a sequence as it is computed from this state; none where there is no such sequence
abbrev pub text_now : State → List ℕ → Signature → Option (List ℕ)
text_now state sequence signature = option_map (signed_text signature) (reported_of state.tables sequence)

-- the text that a change carries stands: that of a draft is a method, and that of a signature is the one that is
-- computed from this state
abbrev pub TextStands : State → Change → Type 0
TextStands state (change.Trace name signal) = ⊤
TextStands state (change.Draft name text) = IsMethod text
TextStands state (change.Freeze name version) = ⊤
TextStands state (change.Sequence name edition method version standards rows) = ⊤
TextStands state (change.Events name edition row events) = ⊤
TextStands state (change.Rebind name edition version) = ⊤
TextStands state (change.Sign sequence number basis moment name meaning text) =
    text_now state sequence (record { number = number; name = name; meaning = meaning; moment = moment }) ≡ Some text

-- a change is carried on in this state: the tables accept it, and the text that it carries stands
pub record CarriesOn (state : State) (change : Change) : Type 0 where
  pub accepts : Accepts state.tables change
  pub text : TextStands state change

-- a record is accepted in this state: it is that of a change which is carried on, and the next state is the one after it
pub record IsAccepted (state : State) (body : List ℕ) (next : State) : Type 0 where
  pub change : Change
  pub stated : IsRecord body change
  pub carries_on : CarriesOn state change
  pub after : next ≡ with_change state change

-- no change makes this record one that is accepted in this state
abbrev pub IsRefused : State → List ℕ → Type 0
IsRefused state body = (next : State) → IsAccepted state body next → ⊥

-- these records make the last state from the first one: each is accepted in the state that the one before it left
abbrev pub Makes : State → List (List ℕ) → State → Type 0
Makes first [] last = last ≡ first
Makes first (body ∷ bodies) last = (next : State) × IsAccepted first body next × Makes next bodies last

-- these records, one after the other, make this state
abbrev pub Opens : List (List ℕ) → State → Type 0
Opens bodies state = Makes empty_state bodies state

-- The record of this number, counted from 1, is the first that isn't accepted: those before it make a state, which
-- refuses it.
pub record StopsAt (bodies : List (List ℕ)) (number : ℕ) : Type 0 where
  pub front : List (List ℕ)
  pub body : List ℕ
  pub back : List (List ℕ)
  pub parts : bodies ≡ front ++ body ∷ back
  pub counted : number ≡ length front + 1
  pub state : State
  pub opens : Opens front state
  pub refused : IsRefused state body
