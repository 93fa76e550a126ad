-- What the turn of a request comes to.
use Rattle.std.proofs.Common.{◌≡◌, ℕ, ◌+◌, ◌-◌, ◌^◌, ◌<◌, ◌≤◌, length, List, Option, Some, None, Result, Ok, Err, refl, sym, ap, ◌∙◌, subst, inl, inr, [], ◌∷◌, ◌++◌, arith}
use Rattle.std.specs.Prelude.{◌⊎◌, Bool, true, unwrap_or, if◌then◌else◌}
use Rattle.std.specs.Prelude.{OnOk, OnErr, IfSome, IsTrue, bytes_eq, codes, is_some, min, option_map}
use Rattle.cds_base.specs.Failing.{one_more}
use Rattle.cds_base.specs.Faults.{Rose, most_faults}
use Rattle.cds_base.specs.Told.{then_more}
use Rattle.cds_desk.specs.State.{State, with_change, after_change, cost_of}
use Rattle.cds_sign.specs.declared.command.Change.{Change}
use Rattle.cds_book.specs.Plan.{command_of, IsCommand}
use Rattle.cds_codec.specs.Record.{carried_text, record_of}
use Rattle.cds_keep.specs.declared.keeper.TheConstants.{RECORD_LIMIT}
use Rattle.cds_sign.specs.Ranges.{IsChange}
use Rattle.cds_sign.specs.declared.command.Change.TheVariants as changes
use Rattle.cds_http.specs.Items.{Message, request}
use Rattle.cds_keep.specs.Found.{Found, records, FindsContent, FindsOneMoreAtMost}
use Rattle.cds_keep.specs.Told.{KeeperTold}
use Rattle.cds_respond.specs.Response.{response_text}
use Rattle.cds_respond.specs.Sending.{HoldsPart}
use Rattle.cds_book.specs.Tables.{TablesState}
use Rattle.cds_graph.specs.Keys.{fresh}
use Rattle.cds_desk.specs.Service.{Outcome, ServesItem, MayGo, MayUse, Used, Way, turn, puts_for, served, no_memory, not_kept, keeper_failed}
use Rattle.cds_desk.specs.Serving.{Lasting, Changed, FindsOn, ItemServed, ItemBroken}
use Rattle.cds_desk.specs.Judged.{reply_of, change_of}
use Rattle.cds_desk.specs.Commands.{IsPlanned, IsBrief}
use Rattle.cds_desk.proofs.CommandLaws.{method_length}
use Rattle.cds_desk.specs.Step.{wanted, judged, records_of}
use Rattle.cds_desk.specs.Signing.{ClockTold, asks_clock, moments_in}
use Rattle.cds_desk.specs.declared.judged.Judged.{Judged}
use Rattle.cds_desk.specs.Turn.{Asks, AsksClock, Comes, KeepsChange, Stored, TakesSteps, stored, wanted_of, judged_of, calls_after, answered_text}
use Rattle.cds_desk.specs.declared.turn.Answered.{Answered}
use Rattle.cds_desk.specs.declared.turn.Answered.TheVariants.{Response, NoMemory, NotKept, KeeperFailed}
use Rattle.cds_desk.specs.declared.turn.Asked.{Asked}
use Rattle.cds_desk.specs.declared.turn.Kept.{Kept}
use Rattle.cds_desk.proofs.ServingLaws.{kept-nil}

-- what comes of a request is the outcome of its turn, with the text that is written
record Came (before now : Lasting) (m : Message) (text : List ℕ) : Type 0 where
  outcome : Outcome
  serves : ServesItem before.state (request m) outcome
  changed : Changed before now outcome
  text_is : text ≡ outcome.written

-- the record of a change was put once
counted : (change : Option Change) (before now : ℕ) → now ≡ calls_after change before → min (before + puts_for change) most_faults ≡ min now most_faults
counted None before now is = omega (arith, is)
counted (Some change) before now is = omega (arith, is)

-- what a turn used that asked for this moment, if for one: it, and the steps that were counted between
abbrev used : Lasting → Lasting → Option ℕ → Used
used before now asked = record { moments = moments_in asked; cost = now.steps - before.steps }

-- the clock was asked exactly where it is to be asked
exactly : (asked : Option ℕ) (asks : Bool) → is_some asked ≡ asks
    → moments_in asked ≡ (if asks then unwrap_or asked 0 ∷ [] else [])
exactly (Some moment) asks is = rw (← is) refl
exactly None asks is = rw (← is) refl

-- or not yet
at_most_once : (asked : Option ℕ) (asks : Bool) → (IsTrue (is_some asked) → asks ≡ true)
    → (moments_in asked ≡ []) ⊎ (moments_in asked ≡ (if asks then unwrap_or asked 0 ∷ [] else []))
at_most_once None asks is = inl refl
at_most_once (Some moment) asks is = inr (rw (is refl) refl)

-- what is told of a turn: it was judged at this moment, and these steps and moments were counted and asked for
record Spent (before now : Lasting) (m : Message) (asked : Option ℕ) : Type 0 where
  takes : TakesSteps (cost_of before.state (change_of (judged before.state m (unwrap_or asked 0)))) before.steps now.steps
  told : ClockTold (moments_in asked) before.clock now.clock

module _ (before now : Lasting) (m : Message) (asked : Option ℕ) (spent : Spent before now m asked) where
  -- the steps are no more than they may be
  few_steps : now.steps - before.steps ≤ cost_of before.state (change_of (judged before.state m (unwrap_or asked 0)))
  few_steps = omega (arith, spent.takes.0, spent.takes.1)

  -- each step was counted
  all_counted : now.steps ≡ before.steps + (now.steps - before.steps)
  all_counted = omega (arith, spent.takes.0)

  -- the turn used no more than it may
  may_use : is_some asked ≡ asks_clock before.state (wanted before.state m) → MayUse before.state m (unwrap_or asked 0) (used before now asked)
  may_use is = record { moments = exactly asked (asks_clock before.state (wanted before.state m)) is; steps = few_steps }

  came : (a : Answered) → AsksClock (asks_clock before.state (wanted before.state m)) asked a
      → Comes (stored before.state before.keeper) (stored now.state now.keeper) (judged before.state m (unwrap_or asked 0))
      (response_text (reply_of (judged before.state m (unwrap_or asked 0))) m.close (bytes_eq m.method (codes "HEAD"))) a
      → Came before now m (answered_text a m.close (bytes_eq m.method (codes "HEAD")))
  came (Response response) asks c = record {
    outcome = turn before.state m (served (unwrap_or asked 0) (used before now asked));
    serves = (served (unwrap_or asked 0) (used before now asked), may_use asks, refl);
    changed = record {
      content = c.2;
      state = c.1;
      puts = counted (change_of (judged before.state m (unwrap_or asked 0))) before.keeper.calls now.keeper.calls c.4;
      failures = omega (arith, c.3);
      untouched = λ _. c.3;
      steps = all_counted;
      clock = spent.told;
    };
    text_is = c.0;
  }
  came NoMemory asks c = record {
    outcome = turn before.state m (no_memory (used before now asked));
    serves = (
      no_memory (used before now asked),
      (
        unwrap_or asked 0,
        record {
          moments = at_most_once asked (asks_clock before.state (wanted before.state m)) asks;
          steps = few_steps;
        },
      ),
      refl,
    );
    changed = record {
      content = ap (λ (s : Stored). s.keeper.content) c ∙ sym (kept-nil before.keeper.content);
      state = ap (λ (s : Stored). s.state) c;
      puts = omega (arith, ap (λ (s : Stored). s.keeper.calls) c);
      failures = omega (arith, ap (λ (s : Stored). s.keeper.faults) c);
      untouched = λ _. ap (λ (s : Stored). s.keeper.faults) c;
      steps = all_counted;
      clock = spent.told;
    };
    text_is = refl;
  }
  came NotKept asks c = record {
    outcome = turn before.state m (not_kept (used before now asked));
    serves = (not_kept (used before now asked), (unwrap_or asked 0, c.0, may_use asks), refl);
    changed = record {
      content = c.2 ∙ sym (kept-nil before.keeper.content);
      state = c.1;
      puts = omega (arith, c.4);
      failures = omega (arith, c.3);
      untouched = λ _. c.3;
      steps = all_counted;
      clock = spent.told;
    };
    text_is = refl;
  }
  came KeeperFailed asks c = record {
    outcome = turn before.state m (keeper_failed (used before now asked));
    serves = (keeper_failed (used before now asked), (unwrap_or asked 0, c.0, may_use asks), refl);
    changed = record {
      content = c.2 ∙ sym (kept-nil before.keeper.content);
      state = c.1;
      puts = omega (arith, c.4);
      failures = c.3;
      untouched = λ none. absurd (cc);
      steps = all_counted;
      clock = spent.told;
    };
    text_is = refl;
  }

-- what was asked wants what the message wants
asked_wanted : (state : State) (asked : Asked) (m : Message) → Asks asked m → wanted_of state asked ≡ wanted state m
unfolding wanted_of
asked_wanted state asked m asks = rw (asks.method, asks.target, asks.body) refl

module _ {A E : Type 0} (r : Result A E) (w v : Option (List ℕ)) (before now : Lasting) (asked : Asked) (m : Message) (moment : Option ℕ) (a : Answered)
    (asks : Asks asked m)
    (comes : Comes (stored before.state before.keeper) (stored now.state now.keeper) (judged_of before.state asked (unwrap_or moment 0))
    (response_text (reply_of (judged_of before.state asked (unwrap_or moment 0))) asked.close asked.without_body) a)
    (takes : TakesSteps (cost_of before.state (change_of (judged_of before.state asked (unwrap_or moment 0)))) before.steps now.steps)
    (clock : AsksClock (asks_clock before.state (wanted_of before.state asked)) moment a)
    (told : ClockTold (moments_in moment) before.clock now.clock) where
  it_came : Came before now m (answered_text a m.close (bytes_eq m.method (codes "HEAD")))
  it_came =
      let same = asked_wanted before.state asked m asks in
      came before now m moment (record { takes = rw (← same) takes; told = told }) a (rw (← same) clock)
      (rw (← same, ← asks.close, ← asks.without_body) comes)

  -- the answer was written whole
  pub served_ok : OnOk r (v ≡ then_more w (answered_text a asked.close asked.without_body))
      → OnOk r (ItemServed (record { written = w; lasting = before }) (record { written = v; lasting = now }) (request m))
  served_ok = on r
    where
      on : (r : Result A E) → OnOk r (v ≡ then_more w (answered_text a asked.close asked.without_body))
          → OnOk r (ItemServed (record { written = w; lasting = before }) (record { written = v; lasting = now }) (request m))
      on (Err x) h = tt
      on (Ok x) h = record {
        outcome = it_came.outcome;
        serves = it_came.serves;
        changed = it_came.changed;
        written = h ∙ ap (then_more w) ((rw (asks.close, asks.without_body) refl) ∙ it_came.text_is);
      }

  -- a front of the answer was written
  pub broken_err : OnErr r (HoldsPart w v (answered_text a asked.close asked.without_body))
      → OnErr r (ItemBroken (record { written = w; lasting = before }) (record { written = v; lasting = now }) (request m))
  broken_err = on r
    where
      on : (r : Result A E) → OnErr r (HoldsPart w v (answered_text a asked.close asked.without_body))
          → OnErr r (ItemBroken (record { written = w; lasting = before }) (record { written = v; lasting = now }) (request m))
      on (Ok x) h = tt
      on (Err x) h = record {
        outcome = it_came.outcome;
        serves = it_came.serves;
        changed = it_came.changed;
        written = rw (asks.close, asks.without_body, it_came.text_is) at h;
      }

-- ---- what is kept of a request

-- what is kept is the change that was judged
pub kept_change : (change : Option Change) (kept : Option Kept) (k : Kept) → KeepsChange change kept → kept ≡ Some k → change ≡ Some k.change
kept_change None None k keeps is = absurd (cc)
kept_change None (Some other) k keeps is = absurd keeps
kept_change (Some change) None k keeps is = absurd keeps
kept_change (Some change) (Some other) k keeps is =
    let same : other ≡ k = cc in
    ap Some (sym keeps.0 ∙ ap (λ (x : Kept). x.change) same)

-- and its record
pub kept_record : (change : Option Change) (kept : Option Kept) (k : Kept) → KeepsChange change kept → kept ≡ Some k → k.record ≡ record_of k.change
kept_record None None k keeps is = absurd (cc)
kept_record None (Some other) k keeps is = absurd keeps
kept_record (Some change) None k keeps is = absurd keeps
kept_record (Some change) (Some other) k keeps is =
    let same : k ≡ other = cc in
    ap (λ (x : Kept). x.record) same ∙ keeps.1 ∙ ap record_of (sym keeps.0 ∙ ap (λ (x : Kept). x.change) (sym same))

-- the change was put once, and carried out
pub comes_put : (before now : Stored) (j : Judged) (text response : List ℕ) (change : Change) (bytes : List ℕ)
    → change_of j ≡ Some change → bytes ≡ record_of change → response ≡ text → now.state ≡ with_change before.state change
    → now.keeper.content ≡ option_map (λ list. list ++ bytes ∷ []) before.keeper.content
    → now.keeper.faults ≡ before.keeper.faults → now.keeper.calls ≡ one_more before.keeper.calls
    → Comes before now j text (Response response)
comes_put before now j text response change bytes is recorded same state content faults calls = (
  same,
  state ∙ ap (after_change before.state) (sym is),
  content ∙ ap (λ (r : List (List ℕ)). option_map (λ list. list ++ r) before.keeper.content) (ap (λ (r : List ℕ). r ∷ []) recorded ∙ ap records_of (sym is)),
  faults,
  calls ∙ ap (λ (c : Option Change). calls_after c before.keeper.calls) (sym is),
)

-- a request that was to be kept changes something
pub is_kept : (change : Option Change) (k : Change) → change ≡ Some k → IsTrue (is_some change)
is_kept change k is = subst (λ (c : Option Change). IsTrue (is_some c)) (sym is) refl

-- a change that is planned has a record
pub planned_has_record : (state : State) (change : Change) → IsPlanned state change → IsChange change
planned_has_record state change planned = planned.content

short : (change : Change) → IsCommand (command_of change) → IsBrief (command_of change) → length (carried_text change) + 2 ^ 22 < RECORD_LIMIT
short (changes.Trace name signal) may is = omega arith
short (changes.Draft name text) may is = let few = method_length text may.1 in omega (arith, few)
short (changes.Freeze name version) may is = omega arith
short (changes.Sequence name edition method version standards rows) may is = omega arith
short (changes.Events name edition row events) may is = omega arith
short (changes.Rebind name edition version) may is = omega arith
short (changes.Sign sequence number basis moment name meaning text) may is = omega (arith, is)

-- and a short one
pub planned_short : (state : State) (change : Change) (bytes : List ℕ) → IsPlanned state change
    → length bytes ≤ length (carried_text change) + 2 ^ 22 → length bytes < RECORD_LIMIT
planned_short state change bytes planned few =
    let most = short change planned.accepts.command planned.brief in
    omega (arith, few, most)

-- ---- what a load finds after a turn

-- what is found exactly is found with one more record at most
pub at_most : (found : Option Found) (content : Option (List (List ℕ))) → FindsContent found content → FindsOneMoreAtMost found content
at_most None content h = tt
at_most (Some f) None h = tt
at_most (Some f) (Some list) h = inl h

-- nothing was kept
pub finds_same : (found now : Option Found) (before after : KeeperTold) → now ≡ found → after.content ≡ before.content → FindsOn found now before after
finds_same found now before after same content = record {
  more = λ was. rw (same, content) was;
  exactly = λ _ _ was. rw (same, content) was;
}

-- a record was kept
pub finds_put : (found now : Option Found) (before after : KeeperTold) → IfSome now (λ f. Some f ≡ option_map records after.content) → FindsOn found now before after
finds_put found now before after h =
    let exact = of_content now after.content h in
    record { more = λ _. at_most now after.content exact; exactly = λ _ _ _. exact }
  where
    of_content : (now : Option Found) (content : Option (List (List ℕ))) → IfSome now (λ f. Some f ≡ option_map records content) → FindsContent now content
    of_content None content h = tt
    of_content (Some f) None h = tt
    of_content (Some f) (Some list) h = cc

-- the keeper failed
pub finds_failed : (found now : Option Found) (before after : KeeperTold) → FindsOneMoreAtMost now after.content → Rose before.faults after.faults → FindsOn found now before after
finds_failed found now before after h rose = record { more = λ _. h; exactly = λ same below _. absurd (omega (arith, same, below, rose)) }

-- ---- what a turn costs

-- a change costs what it makes new, and so does none
pub costs_new : ((tables : TablesState) → fresh tables tables ≡ 0) → (state : State) (change : Option Change)
    → cost_of state change ≡ fresh state.tables (after_change state change).tables
costs_new nothing state (Some change) = refl
costs_new nothing state None = sym (nothing state.tables)

nothing_used : (state : State) (m : Message) (moment : ℕ) (spent : Used) → change_of (judged state m moment) ≡ None
    → spent.cost ≤ cost_of state (change_of (judged state m moment)) → spent.cost ≡ 0
nothing_used state m moment spent none may =
    let few : spent.cost ≤ cost_of state None = subst (λ (c : Option Change). spent.cost ≤ cost_of state c) none may in
    omega (arith, few)

-- the turn of a request without a change takes no step
pub costs_nothing : (state : State) (m : Message) (way : Way) → ((moment : ℕ) → change_of (judged state m moment) ≡ None)
    → MayGo state m way → (turn state m way).cost ≡ 0
costs_nothing state m (served moment spent) none may = nothing_used state m moment spent (none moment) may.steps
costs_nothing state m (no_memory spent) none may = nothing_used state m may.0 spent (none may.0) may.1.steps
costs_nothing state m (not_kept spent) none may = nothing_used state m may.0 spent (none may.0) may.2.steps
costs_nothing state m (keeper_failed spent) none may = nothing_used state m may.0 spent (none may.0) may.2.steps
