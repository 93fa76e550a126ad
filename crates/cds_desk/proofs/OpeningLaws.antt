-- Which records are accepted, and what the accepted ones make.
use Rattle.std.proofs.Common.{◌≡◌, ◌∙◌, ◌+◌, ℕ, zero, suc, List, [], ◌∷◌, ◌++◌, Option, Some, None, Result, Ok, Err, length, take, drop, refl, sym, ap, subst, arith}
use Rattle.std.specs.Prelude.{slice_get}
use Rattle.cds_book.specs.Plan.{Accepts, command_of, planned}
use Rattle.cds_book.specs.Tables.{TablesState}
use Rattle.cds_book.specs.declared.command.Plan.{Plan}
use Rattle.cds_book.specs.declared.command.Plan.TheVariants as plan
use Rattle.cds_book.specs.declared.error.PlanError.{PlanError}
use Rattle.cds_book.proofs.PlanLaws.{command_of-planned}
use Rattle.cds_codec.specs.Record.{IsRecord, Reads}
use Rattle.cds_codec.proofs.ChangeLaws.{one_change}
use Rattle.cds_sign.specs.declared.command.Change.{Change}
use Rattle.cds_desk.specs.Opening.{CarriesOn, IsAccepted, IsRefused, Makes, Opens, StopsAt, TextStands}
use Rattle.cds_desk.specs.declared.desk.OpenError.{OpenError}
use Rattle.cds_desk.specs.declared.desk.OpenError.TheVariants.{Damaged}
use Rattle.cds_desk.specs.State.{State, empty_state, with_change}
use Rattle.cds_desk.proofs.AskedChange.{same_change}

some_same : {A : Type 0} (a b : A) → Some a ≡ Some b → a ≡ b
some_same a b is = cc

-- ---- one record

-- bytes that are no record are refused
pub unread_refused : (state : State) (body : List ℕ) → Reads body None → IsRefused state body
unread_refused state body none next accepted = none accepted.change accepted.stated

-- a record whose change isn't carried on is refused
pub judged_refused : (state : State) (body : List ℕ) (c : Change) → IsRecord body c → (CarriesOn state c → ⊥) → IsRefused state body
judged_refused state body c stated none next accepted =
    none (subst (CarriesOn state) (one_change body accepted.change c accepted.stated stated) accepted.carries_on)

-- what is planned of a change is the change
pub carried : (state : State) (c kept : Change) → TextStands state c → Accepts state.tables kept
    → planned state.tables (command_of c) ≡ Ok (plan.Change kept) → (kept ≡ c) × CarriesOn state kept
carried state c kept stands accepts is =
    let same : kept ≡ c = same_change kept c (command_of-planned state.tables (command_of c) kept is) in
    (same, record { accepts = accepts; text = subst (TextStands state) (sym same) stands })

-- a change whose text doesn't stand, that changes nothing or that is refused isn't carried on
pub text_refused : (state : State) (c : Change) → (TextStands state c → ⊥) → CarriesOn state c → ⊥
text_refused state c refused carries_on = refused carries_on.text

pub unchanged_refused : (state : State) (c : Change) → planned state.tables (command_of c) ≡ Ok plan.Unchanged → CarriesOn state c → ⊥
unchanged_refused state c is carries_on = neither (sym is ∙ carries_on.accepts.accepted)
  where
    neither : ◌≡◌ {A = Result Plan PlanError} (Ok plan.Unchanged) (Ok (plan.Change c)) → ⊥
    neither e = cc

pub judged_otherwise : (state : State) (c : Change) (error : PlanError) → planned state.tables (command_of c) ≡ Err error → CarriesOn state c → ⊥
judged_otherwise state c error is carries_on = neither (sym is ∙ carries_on.accepts.accepted)
  where
    neither : ◌≡◌ {A = Result Plan PlanError} (Err error) (Ok (plan.Change c)) → ⊥
    neither e = cc

-- ---- records one after the other

-- one record more
pub makes_more : (first middle last : State) (bodies : List (List ℕ)) (body : List ℕ) → Makes first bodies middle
    → IsAccepted middle body last → Makes first (bodies ++ body ∷ []) last
makes_more first middle last [] body makes accepted =
    (last, subst (λ (s : State). IsAccepted s body last) makes accepted, refl)
makes_more first middle last (b ∷ bs) body (next, here, rest) accepted =
    (next, here, makes_more next middle last bs body rest accepted)

-- what one record makes of a state is one state
one_next : (state a b : State) (body : List ℕ) → IsAccepted state body a → IsAccepted state body b → a ≡ b
one_next state a b body here there =
    here.after ∙ (ap (with_change state) (one_change body here.change there.change here.stated there.stated) ∙ sym there.after)

-- what records make of a state is one state
pub one_made : (first a b : State) (bodies : List (List ℕ)) → Makes first bodies a → Makes first bodies b → a ≡ b
one_made first a b [] here there = here ∙ sym there
one_made first a b (body ∷ bodies) (next, now, rest) (other, then_, more) =
    one_made other a b bodies (subst (λ (s : State). Makes s bodies a) (one_next first next other body now then_) rest) more

-- records that make a state are none of which one is refused
refused_none : (first middle last : State) (front : List (List ℕ)) (body : List ℕ) (back : List (List ℕ))
    → Makes first front middle → IsRefused middle body → Makes first (front ++ body ∷ back) last → ⊥
refused_none first middle last [] body back front refused (next, accepted, rest) =
    refused next (subst (λ (s : State). IsAccepted s body next) (sym front) accepted)
refused_none first middle last (b ∷ bs) body back (next, here, rest) refused (other, there, more) =
    refused_none next middle last bs body back rest refused
    (subst (λ (s : State). Makes s (bs ++ body ∷ back) last) (one_next first other next b there here) more)

-- a list that opens stops at no record
pub opens_or_stops : (bodies : List (List ℕ)) (state : State) (number : ℕ) → Opens bodies state → StopsAt bodies number → ⊥
opens_or_stops bodies state number opens stops =
    refused_none empty_state stops.state state stops.front stops.body stops.back stops.opens stops.refused
    (subst (λ (list : List (List ℕ)). Opens list state) stops.parts opens)

-- ---- the records of a list in turn

take_next : (records : List (List ℕ)) (place : ℕ) (body : List ℕ) → slice_get records place ≡ Some body
    → take (suc place) records ≡ take place records ++ body ∷ []
take_next [] place body there = absurd (cc)
take_next (r ∷ rs) zero body there = ap (λ (b : List ℕ). b ∷ []) (some_same r body there)
take_next (r ∷ rs) (suc place) body there = ap (λ (rest : List (List ℕ)). r ∷ rest) (take_next rs place body there)

parts_at : (records : List (List ℕ)) (place : ℕ) (body : List ℕ) → slice_get records place ≡ Some body
    → records ≡ take place records ++ body ∷ drop (suc place) records
parts_at [] place body there = absurd (cc)
parts_at (r ∷ rs) zero body there = ap (λ (b : List ℕ). b ∷ rs) (some_same r body there)
parts_at (r ∷ rs) (suc place) body there = ap (λ (rest : List (List ℕ)). r ∷ rest) (parts_at rs place body there)

one_further : (place : ℕ) → place + 1 ≡ suc place
one_further place = omega arith

length_front : (records : List (List ℕ)) (place : ℕ) (body : List ℕ) → slice_get records place ≡ Some body
    → length (take place records) ≡ place
length_front [] place body there = absurd (cc)
length_front (r ∷ rs) zero body there = refl
length_front (r ∷ rs) (suc place) body there = ap suc (length_front rs place body there)

-- the records up to a place and the one there
pub makes_next : (records : List (List ℕ)) (place : ℕ) (middle last : State) (body : List ℕ) → slice_get records place ≡ Some body
    → Opens (take place records) middle → IsAccepted middle body last → Opens (take (place + 1) records) last
makes_next records place middle last body there opens accepted =
    subst (λ (front : List (List ℕ)). Opens front last)
    (sym (ap (λ (n : ℕ). take n records) (one_further place) ∙ take_next records place body there))
    (makes_more empty_state middle last (take place records) body opens accepted)

-- the record at a place that is refused is the first
pub stops_here : (records : List (List ℕ)) (place : ℕ) (state : State) (body : List ℕ) → slice_get records place ≡ Some body
    → Opens (take place records) state → IsRefused state body → StopsAt records (place + 1)
stops_here records place state body there opens refused = record {
  front = take place records;
  body = body;
  back = drop (suc place) records;
  parts = parts_at records place body there;
  counted = ap (λ (n : ℕ). n + 1) (sym (length_front records place body there));
  state = state;
  opens = opens;
  refused = refused;
}

-- the number that is told
pub same_number : {A : Type 0} (a b : ℕ) → ◌≡◌ {A = Result A OpenError} (Err (Damaged a)) (Err (Damaged b)) → a ≡ b
same_number a b is = cc
