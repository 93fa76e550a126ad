-- How a session ends.
use Rattle.std.proofs.Common.{◌≡◌, ◌≤◌, ℕ, true, false, List, [], length, Result, Err, Option, Some, None, Ok, refl, sym, ap, ◌∙◌, subst, inl, inr}
use Rattle.std.specs.Prelude.{◌≢◌, ◌⊎◌, IfSome, is_some}
use Rattle.cds_base.specs.Failing.{one_more}
use Rattle.cds_base.specs.Faults.{Rose}
use Rattle.cds_base.specs.Sink.{SinkTold}
use Rattle.cds_keep.specs.Found.{Found, FindsContent, records, damaged}
use Rattle.cds_keep.specs.Told.{KeeperTold}
use Rattle.cds_respond.specs.Sending.{Sent}
use Rattle.cds_desk.specs.Opening.{Opens, StopsAt}
use Rattle.cds_desk.specs.Session.{IsDamagedAt, Loaded, Opened, Stopped, Unopened, damaged_line, status_of}
use Rattle.cds_desk.specs.State.{State}
use Rattle.cds_desk.specs.Statuses.{ends_unserved, is_served}
use Rattle.cds_desk.specs.declared.status.Status.{Status}
use Rattle.cds_desk.specs.declared.status.Status.TheVariants as status
use Rattle.cds_desk.specs.declared.serving.Ended.TheVariants as ending
use Rattle.cds_desk.specs.declared.serving.Ended.{Ended}
use Rattle.cds_desk.proofs.OpeningLaws.{opens_or_stops}

-- ---- a load

-- what was loaded
pub loaded_so : (found : Option Found) (before now : KeeperTold) (list : List (List ℕ))
    → IfSome found (λ f. (f ≡ records list) × (now.content ≡ Some list)) → IfSome now.content (λ kept. kept ≡ list)
    → now.is_open ≡ true → now.faults ≡ before.faults → now.calls ≡ one_more before.calls → Loaded list found before now
loaded_so found before now list h holds is_open faults calls = record {
  is_found = both_found found h;
  is_open = is_open;
  is_content = holds;
  told = both_told found h;
  faults = faults;
  calls = calls;
}
  where
    both_found : (found : Option Found) → IfSome found (λ f. (f ≡ records list) × (now.content ≡ Some list)) → IfSome found (λ f. f ≡ records list)
    both_found None h = tt
    both_found (Some f) h = h.0

    both_told : (found : Option Found) → IfSome found (λ f. (f ≡ records list) × (now.content ≡ Some list)) → IfSome found (λ f. now.content ≡ Some list)
    both_told None h = tt
    both_told (Some f) h = h.1

-- the keeper failed in the load
pub load_failed : (found : Option Found) (keeper keeper_now : KeeperTold) (sink sink_now : SinkTold) → keeper_now.calls ≡ one_more keeper.calls
    → Rose keeper.faults keeper_now.faults → keeper_now.is_open ≡ false → Unopened status.KeeperFailed found keeper keeper_now sink sink_now
load_failed found keeper keeper_now sink sink_now calls rose shut = record {
  ends = refl;
  loads_once = calls;
  count_stays = λ other. absurd (other refl);
  keeper_failed = λ _. (rose, shut);
  damaged_at = λ is. absurd (cc);
}

-- memory was wanting in the load
pub load_wanting : (found : Option Found) (keeper keeper_now : KeeperTold) (sink sink_now : SinkTold) → keeper_now.calls ≡ one_more keeper.calls
    → keeper_now.faults ≡ keeper.faults → Unopened status.NoMemory found keeper keeper_now sink sink_now
load_wanting found keeper keeper_now sink sink_now calls same = record {
  ends = refl;
  loads_once = calls;
  count_stays = λ _. same;
  keeper_failed = λ is. absurd (cc);
  damaged_at = λ is. absurd (cc);
}

-- the store can't delimit a record
pub load_damaged : (found : Option Found) (keeper keeper_now : KeeperTold) (sink sink_now : SinkTold) (number : ℕ)
    → keeper_now.calls ≡ one_more keeper.calls → keeper_now.faults ≡ keeper.faults → IfSome found (λ f. f ≡ damaged number)
    → Sent sink.written sink_now.written sink.faults sink_now.faults (damaged_line number)
    → Unopened status.Damaged found keeper keeper_now sink sink_now
load_damaged found keeper keeper_now sink sink_now number calls same h sent = record {
  ends = refl;
  loads_once = calls;
  count_stays = λ _. same;
  keeper_failed = λ is. absurd (cc);
  damaged_at = λ _. (number, at found h, sent);
}
  where
    at : (found : Option Found) → IfSome found (λ f. f ≡ damaged number) → IfSome found (λ f. IsDamagedAt f number)
    at None h = tt
    at (Some f) h = subst (λ (x : Found). IsDamagedAt x number) (sym h) refl

-- a load leaves what a load finds
pub finds_again : (found now : Option Found) (content : Option (List (List ℕ))) (list : List (List ℕ)) → IfSome found (λ f. (f ≡ records list) × (content ≡ Some list))
    → IfSome now (λ f. f ≡ records list) → is_some now ≡ is_some found → now ≡ found
finds_again None None content list was is same = refl
finds_again None (Some f) content list was is same = absurd (cc)
finds_again (Some f) None content list was is same = absurd (cc)
finds_again (Some f) (Some g) content list was is same = ap Some (is ∙ sym was.0)

-- a load finds the records that it found
pub finds_loaded : (found : Option Found) (content : Option (List (List ℕ))) (list : List (List ℕ))
    → IfSome found (λ f. f ≡ records list) → IfSome content (λ kept. kept ≡ list) → FindsContent found content
finds_loaded None content list h holds = tt
finds_loaded (Some f) None list h holds = tt
finds_loaded (Some f) (Some kept) list h holds = h ∙ ap records (sym holds)

-- a load that answers a list answers no error
pub no_error : {A E : Type 0} (list : A) (error : E) → ◌≡◌ {A = Result A E} (Ok list) (Err error) → ⊥
no_error list error is = cc

-- ---- a store that was loaded

-- it was opened
pub opened_so : (list : List (List ℕ)) (found : Option Found) (before now : KeeperTold) (state : State) (counted steps : ℕ)
    → Loaded list found before now → Opens list state → counted ≤ steps → (list ≡ [] → steps ≡ counted)
    → Opened found before counted now state steps
opened_so list found before now state counted steps loaded opens counts no_step = record {
  list = list;
  loaded = loaded;
  opens = opens;
  counts = counts;
  no_step = no_step;
}

-- it wasn't opened
pub unopened_so : (how : Status) (list : List (List ℕ)) (found : Option Found) (before now : KeeperTold) (sink sink_now : SinkTold)
    → Loaded list found before now → Stopped how list sink sink_now → Unopened how found before now sink sink_now
unopened_so how list found before now sink sink_now loaded stopped = record {
  ends = either stopped.ends;
  loads_once = loaded.calls;
  count_stays = λ _. loaded.faults;
  keeper_failed = λ is. absurd (never stopped.ends is);
  damaged_at = λ is. let stops = stopped.damaged_at is in (stops.0, at found stops.0 loaded.is_found stops.1, stops.2);
}
  where
    either : (how ≡ status.NoMemory) ⊎ (how ≡ status.Damaged) → ends_unserved how ≡ true
    either (inl is) = ap ends_unserved is
    either (inr is) = ap ends_unserved is

    never : (how ≡ status.NoMemory) ⊎ (how ≡ status.Damaged) → how ≡ status.KeeperFailed → ⊥
    never (inl is) other = cc
    never (inr is) other = cc

    at : (found : Option Found) (number : ℕ) → IfSome found (λ f. f ≡ records list) → StopsAt list number → IfSome found (λ f. IsDamagedAt f number)
    at None number h stops = tt
    at (Some f) number h stops = subst (λ (x : Found). IsDamagedAt x number) (sym h) stops

-- without records there was no step
pub no_step_so : (list : List (List ℕ)) (found : Option Found) (before now : KeeperTold) (counted steps : ℕ) → Loaded list found before now
    → (list ≡ [] → steps ≡ counted) → IfSome found (λ f. f ≡ records [] → steps ≡ counted)
no_step_so list None before now counted steps loaded none = tt
no_step_so list (Some f) before now counted steps loaded none = λ is. none (same (sym loaded.is_found ∙ is))
  where
    same : records list ≡ records [] → list ≡ []
    same e = cc

-- and no step without a load
pub no_step_none : (found : Option Found) (counted : ℕ) → IfSome found (λ f. f ≡ records [] → counted ≡ counted)
no_step_none None counted = tt
no_step_none (Some f) counted = λ _. refl

-- a store that was opened isn't damaged
pub opened_is_whole : (found : Option Found) (before now : KeeperTold) (counted steps : ℕ) (state : State) (how : Status)
    → Opened found before counted now state steps → IfSome found (λ f. (number : ℕ) → IsDamagedAt f number → ends_unserved how ≡ true)
opened_is_whole None before now counted steps state how opened = tt
opened_is_whole (Some f) before now counted steps state how opened = λ number at.
    absurd (opens_or_stops opened.list state number opened.opens
    (subst (λ (x : Found). IsDamagedAt x number) opened.loaded.is_found at))

-- a store that wasn't opened, or isn't served for want of memory, ends so whether it is damaged or not
pub unserved_anyway : (found : Option Found) (how : Status) → ends_unserved how ≡ true
    → IfSome found (λ f. (number : ℕ) → IsDamagedAt f number → ends_unserved how ≡ true)
unserved_anyway None how is = tt
unserved_anyway (Some f) how is = λ _ _. is

-- memory was wanting once the store was open
pub unserved_wanting : (found : Option Found) (before now : KeeperTold) (counted steps : ℕ) (state : State) (sink sink_now : SinkTold)
    → Opened found before counted now state steps → Unopened status.NoMemory found before now sink sink_now
unserved_wanting found before now counted steps state sink sink_now opened =
    load_wanting found before now sink sink_now opened.loaded.calls opened.loaded.faults

-- a session that was opened ends unserved for want of memory alone
pub unserved_for_memory : (ended : Ended) → ends_unserved (status_of ended) ≡ true → ended ≡ ending.NoMemory
unserved_for_memory ending.Done is = absurd (cc)
unserved_for_memory ending.Refused is = absurd (cc)
unserved_for_memory ending.SourceFailed is = absurd (cc)
unserved_for_memory ending.SinkFailed is = absurd (cc)
unserved_for_memory ending.NoMemory is = refl

-- and then neither for the keeper nor for damage
pub not_for_keeper : (ended : Ended) → status_of ended ≢ status.KeeperFailed
not_for_keeper ending.Done = λ e. cc
not_for_keeper ending.Refused = λ e. cc
not_for_keeper ending.SourceFailed = λ e. cc
not_for_keeper ending.SinkFailed = λ e. cc
not_for_keeper ending.NoMemory = λ e. cc

pub not_for_damage : (ended : Ended) → status_of ended ≢ status.Damaged
not_for_damage ending.Done = λ e. cc
not_for_damage ending.Refused = λ e. cc
not_for_damage ending.SourceFailed = λ e. cc
not_for_damage ending.SinkFailed = λ e. cc
not_for_damage ending.NoMemory = λ e. cc

-- a session that was opened was stated by its words
pub not_for_words : (ended : Ended) → status_of ended ≢ status.NoCommand
not_for_words ending.Done = λ e. cc
not_for_words ending.Refused = λ e. cc
not_for_words ending.SourceFailed = λ e. cc
not_for_words ending.SinkFailed = λ e. cc
not_for_words ending.NoMemory = λ e. cc

-- the end of the serving that a status tells
abbrev ended_of : Status → Ended
ended_of status.Done = ending.Done
ended_of status.Refused = ending.Refused
ended_of status.NoCommand = ending.NoMemory
ended_of status.SourceFailed = ending.SourceFailed
ended_of status.SinkFailed = ending.SinkFailed
ended_of status.KeeperFailed = ending.NoMemory
ended_of status.NoMemory = ending.NoMemory
ended_of status.DoorFailed = ending.NoMemory
ended_of status.Damaged = ending.NoMemory

told_end : (ended : Ended) → ended_of (status_of ended) ≡ ended
told_end ending.Done = refl
told_end ending.Refused = refl
told_end ending.SourceFailed = refl
told_end ending.SinkFailed = refl
told_end ending.NoMemory = refl

-- the status tells that the source failed, that the sink did, or that memory was wanting
pub source_failed : (ended : Ended) → status_of ended ≡ status.SourceFailed → ended ≡ ending.SourceFailed
source_failed ended is = sym (told_end ended) ∙ ap ended_of is

pub sink_failed : (ended : Ended) → status_of ended ≡ status.SinkFailed → ended ≡ ending.SinkFailed
sink_failed ended is = sym (told_end ended) ∙ ap ended_of is

pub memory_wanting : (ended : Ended) → status_of ended ≡ status.NoMemory → ended ≡ ending.NoMemory
memory_wanting ended is = sym (told_end ended) ∙ ap ended_of is

-- a session that is done is none whose sink failed
pub done_is_whole : (ended : Ended) → status_of ended ≡ status.Done → ended ≢ ending.SinkFailed
done_is_whole ended is = λ failed. done_or_failed (sym is ∙ ap status_of failed)
  where
    done_or_failed : status.Done ≡ status.SinkFailed → ⊥
    done_or_failed e = cc

-- ---- statuses

-- what was served isn't unserved
pub never_both : (how : Status) → is_served how ≡ true → ends_unserved how ≡ true → ⊥
never_both status.Done is un = cc
never_both status.Refused is un = cc
never_both status.NoCommand is un = cc
never_both status.SourceFailed is un = cc
never_both status.SinkFailed is un = cc
never_both status.KeeperFailed is un = cc
never_both status.NoMemory is un = cc
never_both status.DoorFailed is un = cc
never_both status.Damaged is un = cc

-- a status of what wasn't opened is that of a command that was read, and tells of no source, no sink and no end
pub record IsUnserved (how : Status) : Type 0 where
  pub no_words : how ≢ status.NoCommand
  pub no_source : how ≢ status.SourceFailed
  pub no_sink : how ≢ status.SinkFailed
  pub no_end : how ≢ status.Done
  pub no_fault : how ≢ status.Refused

pub is_unserved : (how : Status) → ends_unserved how ≡ true → IsUnserved how
is_unserved how is = record {
  no_words = λ e. wrong (sym (ap ends_unserved e) ∙ is);
  no_source = λ e. wrong (sym (ap ends_unserved e) ∙ is);
  no_sink = λ e. wrong (sym (ap ends_unserved e) ∙ is);
  no_end = λ e. wrong (sym (ap ends_unserved e) ∙ is);
  no_fault = λ e. wrong (sym (ap ends_unserved e) ∙ is);
}
  where
    wrong : false ≡ true → ⊥
    wrong e = cc

-- what wants memory isn't damaged
pub wanting_undamaged : (how : Status) → how ≡ status.NoMemory → how ≢ status.Damaged
wanting_undamaged how is other = differ (sym is ∙ other)
  where
    differ : status.NoMemory ≡ status.Damaged → ⊥
    differ e = cc

-- memory was wanting for what a store was opened for
pub unserved_after : (how : Status) (e : Ended) (found : Option Found) (before now later : KeeperTold) (counted steps : ℕ) (state : State)
    (sink sink_now : SinkTold) → how ≡ status_of e → e ≡ ending.NoMemory → later ≡ now → Opened found before counted now state steps
    → Unopened how found before later sink sink_now
unserved_after how e found before now later counted steps state sink sink_now is wanting same opened =
    subst (λ (h : Status). Unopened h found before later sink sink_now) (sym (is ∙ ap status_of wanting))
    (subst (λ (k : KeeperTold). Unopened status.NoMemory found before k sink sink_now) (sym same)
    (unserved_wanting found before now counted steps state sink sink_now opened))

-- and then no step was taken either, where there is no record
pub no_step_after : (found : Option Found) (counted steps later : ℕ) → IfSome found (λ f. f ≡ records [] → steps ≡ counted) → later ≡ steps
    → IfSome found (λ f. f ≡ records [] → later ≡ counted)
no_step_after None counted steps later none same = tt
no_step_after (Some f) counted steps later none same = λ is. same ∙ none is
