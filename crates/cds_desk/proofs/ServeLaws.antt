-- Connections that are taken from a door, served and closed.
use Rattle.std.proofs.Common.{◌≡◌, true, ◌∙◌, ◌+◌, ◌≤◌, ◌<◌, ℕ, List, [], ◌∷◌, ◌++◌, length, Option, Some, None, refl, sym, ap, subst, inl, inr, arith}
use Rattle.std.specs.Prelude.{◌⊎◌, ◌≢◌, All, IfSome, get_or, option_map, take}
use Rattle.std.proofs.lemmas.List.{length-append}
use Rattle.std.proofs.lemmas.List.Elements.{All-nil, All-cons, All-head, All-tail}
use Rattle.cds_base.specs.Door.{Closed, DoorState, DoorTold, closed_connection, closed_of, first_taken, with_closed}
use Rattle.cds_base.specs.Faults.{Rose}
use Rattle.cds_base.specs.Sink.{SinkTold}
use Rattle.cds_base.specs.Source.{SourceTold}
use Rattle.cds_base.specs.Told.{then_more, more_before}
use Rattle.cds_respond.specs.Sending.{HoldsPart}
use Rattle.cds_desk.specs.Serving.{EndsAs, InAll, Read, Reading, World, reading}
use Rattle.cds_desk.specs.Serve.{AreVisited, FailsDoor, HadMemory, IsVisited, PassesDoor, Listens, Served, TakesOne, Visit, Visited, VisitsEnd}
use Rattle.cds_desk.specs.declared.serve.Taken.{Taken}
use Rattle.cds_desk.specs.declared.serve.Taken.TheVariants as taken
use Rattle.cds_desk.specs.declared.serving.Ended.{Ended}
use Rattle.cds_desk.specs.declared.serving.Ended.TheVariants as ending
use Rattle.cds_desk.specs.declared.status.Status.{Status}
use Rattle.cds_desk.specs.declared.status.Status.TheVariants.{Done, DoorFailed, NoMemory}
use Rattle.cds_desk.specs.declared.status.Status.TheVariants as status
use Rattle.cds_desk.specs.Statuses.{ends_serve, ends_unserved}

-- ---- what is told stays told

-- something is told
abbrev pub IsTold : Option (List ℕ) → Type 0
IsTold told = (bytes : List ℕ) × (told ≡ Some bytes)

more_told : (known now : Option (List ℕ)) (more : List ℕ) → now ≡ then_more known more → IsTold known → IsTold now
more_told known now more is (bytes, known_is) = (bytes ++ more, is ∙ ap (λ (k : Option (List ℕ)). then_more k more) known_is)

rest_told : (left rest : Option (List ℕ)) (more : List ℕ) → left ≡ more_before more rest → IsTold left → IsTold rest
rest_told left (Some bytes) more is there = (bytes, refl)
rest_told left None more is there = absurd (none_told (sym there.1 ∙ is))
  where
    none_told : Some there.0 ≡ more_before more None → ⊥
    none_told e = cc

part_told : (before now : Option (List ℕ)) (text : List ℕ) → HoldsPart before now text → IsTold before → IsTold now
part_told before now text part there = more_told before now (take part.0 text) part.2 there

-- what is told of a connection when it is closed
pub record StaysTold (before now : World) (from to : Reading) : Type 0 where
  pub given : IsTold from.given → IsTold to.given
  pub left : IsTold from.left → IsTold to.left
  pub written : IsTold before.written → IsTold now.written

read_told : (before now : World) (from to : Reading) (bytes : List ℕ) → Read from to bytes → (IsTold before.written → IsTold now.written)
    → StaysTold before now from to
read_told before now from to bytes read written = record {
  given = more_told from.given to.given bytes read.given;
  left = rest_told from.left to.left bytes read.left;
  written = written;
}

pub ends_told : (ended : Ended) (before now : World) (from to : Reading) → EndsAs ended before now from to → StaysTold before now from to
ends_told ending.Done before now from to (whole, items, all, unrefused, end) =
    read_told before now from to all.bytes all.read (more_told before.written now.written all.in_all.outcome.written all.in_all.written)
ends_told ending.Refused before now from to (whole, items, all, refused) =
    read_told before now from to all.bytes all.read (more_told before.written now.written all.in_all.outcome.written all.in_all.written)
ends_told ending.SourceFailed before now from to (items, all, unrefused, unclosed) =
    read_told before now from to all.bytes all.read (more_told before.written now.written all.in_all.outcome.written all.in_all.written)
ends_told ending.SinkFailed before now from to broken =
    read_told before now from to broken.bytes broken.read
    (λ there. part_told broken.between.written now.written broken.broken.outcome.written broken.broken.written
    (more_told before.written broken.between.written broken.in_all.outcome.written broken.in_all.written there))
ends_told ending.NoMemory before now from to (same, still) = record {
  given = λ there. subst (λ (r : Reading). IsTold r.given) (sym still) there;
  left = λ there. subst (λ (r : Reading). IsTold r.left) (sym still) there;
  written = λ there. subst (λ (w : World). IsTold w.written) (sym same) there;
}

-- the closed connection, where all is told
pub closed_told : (source : SourceTold) (sink : SinkTold) → IsTold source.given → IsTold source.left → IsTold sink.written
    → (connection : Closed) × (closed_of source sink ≡ Some connection)
closed_told source sink (given, given_is) (left, left_is) (written, written_is) =
    (closed_connection given left source.faults sink.faults written, rw (given_is, left_is, written_is) refl)

-- ---- visits, one after the other

-- one more connection was visited
pub visited_then : (visits : List Visit) (v : Visit) (a b c : Served) → AreVisited a visits b → IsVisited b c v → AreVisited a (visits ++ v ∷ []) c
visited_then [] v a b c all one = (c, subst (λ (s : Served). IsVisited s c v) all one, refl)
visited_then (x ∷ visits) v a b c (next, here, rest) one = (next, here, visited_then visits v next b c rest one)

all_then : (visits : List Visit) (v : Visit) → All HadMemory visits → HadMemory v → All HadMemory (visits ++ v ∷ [])
all_then [] v all one = All-cons HadMemory v [] one (All-nil HadMemory)
all_then (x ∷ visits) v all one =
    All-cons HadMemory x (visits ++ v ∷ []) (All-head HadMemory x visits all) (all_then visits v (All-tail HadMemory x visits all) one)

one_longer : (visits : List Visit) (v : Visit) → length (visits ++ v ∷ []) ≡ length visits + 1
one_longer visits v = length-append visits (v ∷ [])

-- the visits so far, each with memory
pub record VisitedSo (count : ℕ) (before now : Served) : Type 0 where
  pub visits : List Visit
  pub are_visited : AreVisited before visits now
  pub counted : length visits ≡ count
  pub had_memory : All HadMemory visits

pub visited_none : (s : Served) → VisitedSo 0 s s
visited_none s = record { visits = []; are_visited = refl; counted = refl; had_memory = All-nil HadMemory }

pub visited_one : (count : ℕ) (before between now : Served) → VisitedSo count before between → TakesOne taken.Closed between now
    → VisitedSo (count + 1) before now
visited_one count before between now so (v, one, had) = record {
  visits = so.visits ++ v ∷ [];
  are_visited = visited_then so.visits v before between now so.are_visited one;
  counted = one_longer so.visits v ∙ ap (λ (n : ℕ). n + 1) so.counted;
  had_memory = all_then so.visits v so.had_memory had;
}

-- all were served
pub visited_all : (count number : ℕ) (before now : Served) → VisitedSo count before now → count ≡ number → Visited Done number before now
visited_all count number before now so is = record {
  visits = so.visits;
  between = now;
  are_visited = so.are_visited;
  ends = inl (refl, so.counted ∙ is, so.had_memory, refl);
}

-- the door failed at the next one
pub visited_failed : (count number : ℕ) (before between now : Served) → VisitedSo count before between → count < number
    → TakesOne taken.DoorFailed between now → Visited DoorFailed number before now
visited_failed count number before between now so below (still, failed) = record {
  visits = so.visits;
  between = between;
  are_visited = so.are_visited;
  ends = inr (inl (refl, subst (λ (n : ℕ). n < number) (sym so.counted) below, so.had_memory, still, failed));
}

-- memory was wanting for the next one
pub visited_wanting : (count number : ℕ) (before between now : Served) → VisitedSo count before between → count < number
    → TakesOne taken.NoMemory between now → Visited NoMemory number before now
visited_wanting count number before between now so below (v, one, wanting) = record {
  visits = so.visits ++ v ∷ [];
  between = now;
  are_visited = visited_then so.visits v before between now so.are_visited one;
  ends = inr (inr (refl, few so.visits v so.counted, refl, (so.visits, v, refl, so.had_memory, wanting)));
}
  where
    few : (visits : List Visit) (v : Visit) → length visits ≡ count → length (visits ++ v ∷ []) ≤ number
    few visits v is = omega (arith, one_longer visits v, is, below)

-- ---- one visit

-- the connection of a visit passed the door, where the door tells its connections
pub visit_passes : (before between now : Option DoorState) (v : Visit) (b n : World)
    → IfSome before (λ door. v.source.left ≡ Some (get_or door.coming 0 [])) → IfSome before (λ _. v.source.given ≡ Some [])
    → IfSome before (λ _. v.sink.written ≡ Some []) → between ≡ option_map first_taken before
    → IfSome (closed_of v.source_closed v.sink_closed) (λ connection. now ≡ option_map (with_closed connection) between)
    → StaysTold b n (reading v.source.given v.source.left) (reading v.source_closed.given v.source_closed.left)
    → b.written ≡ v.sink.written → n.written ≡ v.sink_closed.written
    → IfSome before (λ door. PassesDoor v door now)
visit_passes None between now v b n comes unread unwritten takes closes stays was is = tt
visit_passes (Some door) between now v b n comes unread unwritten takes closes stays was is =
    let there : IsTold v.sink_closed.written = subst IsTold is (stays.written ([], was ∙ unwritten)) in
    let closed : (connection : Closed) × (closed_of v.source_closed v.sink_closed ≡ Some connection) =
    closed_told v.source_closed v.sink_closed (stays.given ([], unread)) (stays.left (get_or door.coming 0 [], comes)) there in
    record {
      comes = comes;
      unread = unread;
      unwritten = unwritten;
      connection = closed.0;
      is_closed = closed.1;
      closes = subst (λ (o : Option Closed). IfSome o (λ connection. now ≡ option_map (with_closed connection) between)) closed.1 closes
          ∙ ap (λ (d : Option DoorState). option_map (with_closed closed.0) d) takes;
    }

-- a count that was 0 stays so, or rose from there
pub stays_none : (was now : ℕ) → was ≡ 0 → now ≡ was → now ≡ 0
stays_none was now is same = same ∙ is

pub rose_from_none : (was now : ℕ) → was ≡ 0 → Rose was now → Rose 0 now
rose_from_none was now is rose = subst (λ (n : ℕ). Rose n now) is rose

-- a serving that ended in one of four ways had memory
pub had_memory : (e : Ended) → (e ≡ ending.Done) ⊎ ((e ≡ ending.Refused) ⊎ ((e ≡ ending.SourceFailed) ⊎ (e ≡ ending.SinkFailed)))
    → e ≢ ending.NoMemory
had_memory e (inl is) other = cc
had_memory e (inr (inl is)) other = cc
had_memory e (inr (inr (inl is))) other = cc
had_memory e (inr (inr (inr is))) other = cc

-- ---- the end of `serve`

-- what a server ends as when it listens
pub listens_ends : (how : Status) (port number : ℕ) (before now : Served) → Listens how port number before now → ends_serve how ≡ true
listens_ends how port number before now (inl (is, still, failed)) = ap ends_serve is
listens_ends how port number before now (inr (door, port_is, pairs, faults, visited)) = ends_visited visited.ends
  where
    ends_visited : VisitsEnd how number visited.visits visited.between now → ends_serve how ≡ true
    ends_visited (inl (is, all, had, end)) = ap ends_serve is
    ends_visited (inr (inl (is, below, had, still, failed))) = ap ends_serve is
    ends_visited (inr (inr (is, few, end, last))) = ap ends_serve is

-- what a server ends as whose store wasn't opened
pub unopened_ends : (how : Status) → ends_unserved how ≡ true → ends_serve how ≡ true
unopened_ends how is = by how is
  where
    by : (h : Status) → ends_unserved h ≡ true → ends_serve h ≡ true
    by status.Done un = absurd (cc)
    by status.Refused un = absurd (cc)
    by status.NoCommand un = absurd (cc)
    by status.SourceFailed un = absurd (cc)
    by status.SinkFailed un = absurd (cc)
    by status.KeeperFailed un = refl
    by status.NoMemory un = refl
    by status.DoorFailed un = absurd (cc)
    by status.Damaged un = refl
