-- What was read, served and written so far, and what that comes to at the end.
use Rattle.std.proofs.Common.{◌≡◌, ℕ, zero, suc, ◌+◌, ◌*◌, ◌^◌, ◌<◌, ◌≤◌, Bool, true, false, ◌||◌, if◌then◌else◌, List, [], ◌∷◌, ◌++◌, length, Option, Some, None, refl, sym, ap, ◌∙◌, subst, inl, inr, append_assoc, append-nil, length-append, length-drop, arith}
use Rattle.std.specs.Prelude.{◌⊎◌, IfSome, option_map}
use Rattle.cds_base.specs.Told.{then_more, more_before}
use Rattle.cds_base.proofs.ToldLaws.{then_more_twice, more_before_twice}
use Rattle.cds_http.proofs.ItemLemmas.{AreItems-unique as items_unique}
use Rattle.cds_http.specs.Items.{AreAfter, Item, continue, request, fault, FirstItem, HasItems}
use Rattle.cds_http.specs.Stream.{Stream, new_stream, fault_in, kept_answer, fed, answered, dropped, message_of, ItemsFrom, TellsItem, AddsAnswer, AddsRequest}
use Rattle.cds_http.specs.declared.next.Fault.{Fault}
use Rattle.cds_http.specs.declared.next.Next.{Next}
use Rattle.cds_http.specs.declared.next.Next.TheVariants as next
use Rattle.cds_http.specs.declared.next.Request.{Request}
use Rattle.cds_keep.specs.Found.{Found}
use Rattle.cds_keep.specs.Told.{KeeperTold}
use Rattle.cds_respond.specs.Sending.{HoldsPart}
use Rattle.cds_base.specs.Clock.{Moments, moments_after}
use Rattle.cds_desk.specs.State.{State}
use Rattle.cds_desk.specs.Signing.{ClockTold}
use Rattle.cds_desk.specs.Service.{Outcome, ServesItem, Serves, followed_by, writes}
use Rattle.cds_desk.specs.Serving.{Lasting, World, Reading, reading, Changed, FindsOn, Read, ReadOn, ItemServed, ItemBroken, Served, is_refused, is_closed, IsDone, IsRefused, IsSourceFailed, IsSinkFailed, EndsAs, AreServed, InAll}
use Rattle.cds_desk.specs.declared.serving.Ended.{Ended}
use Rattle.cds_desk.specs.declared.serving.Ended.TheVariants.{Done, Refused, SinkFailed}
use Rattle.cds_desk.proofs.ToldItems.{Told, told_nothing, told_fed, told_more, told_answer, told_continue, told_request, items_so_far, items_with, begins_with}

-- some bytes were read, and fed to the stream
pub read_some : (g h l r : Option (List ℕ)) (m m' : Stream) (bytes : List ℕ) (n : ℕ) → h ≡ then_more g bytes → l ≡ more_before bytes r
    → length bytes ≡ n → 0 < n → m' ≡ fed m bytes → ReadOn (reading g l) (reading h r) m m' n
read_some g h l r m m' bytes n given left count some is = record {
  bytes = bytes;
  read = record { given = given; left = left };
  length_is = count;
  ended = λ none. absurd (omega (arith, none, some));
  fed = λ _. is;
}

-- ---- nothing more is known, is written, or is kept

then_more-nil : (known : Option (List ℕ)) → then_more known [] ≡ known
then_more-nil None = refl
then_more-nil (Some bytes) = ap Some (append-nil bytes)

more_before-nil : (known : Option (List ℕ)) → more_before [] known ≡ known
more_before-nil None = refl
more_before-nil (Some bytes) = refl

pub kept-nil : (content : Option (List (List ℕ))) → option_map (λ list. list ++ []) content ≡ content
kept-nil None = refl
kept-nil (Some list) = ap Some (append-nil list)

kept-twice : (content : Option (List (List ℕ))) (a b : List (List ℕ)) → option_map (λ list. list ++ b) (option_map (λ list. list ++ a) content) ≡ option_map (λ list. list ++ (a ++ b)) content
kept-twice None a b = refl
kept-twice (Some list) a b = ap Some (append_assoc list a b)

-- ---- outcomes, one after the other

-- nothing changed but what is written
pub changed_nothing : (l : Lasting) (text : List ℕ) → Changed l l (writes l.state text)
changed_nothing l text = record {
  content = sym (kept-nil l.keeper.content);
  state = refl;
  puts = omega arith;
  failures = omega arith;
  untouched = λ _. refl;
  steps = omega arith;
  clock = refl;
}

-- the clock was asked for some moments, and then for others
told_then : (x y : List ℕ) (a b c : Option Moments) → ClockTold x a b → ClockTold y b c → ClockTold (x ++ y) a c
told_then [] y a b c same later = subst (λ (o : Option Moments). ClockTold y o c) same later
told_then (moment ∷ x) y a b c one later = (one.0, told_then x y (option_map moments_after a) b c one.1 later)

changed_then : (a b c : Lasting) (first second : Outcome) → Changed a b first → Changed b c second → Changed a c (followed_by first second)
changed_then a b c first second x y = record {
  content = y.content ∙ ap (option_map (λ list. list ++ second.records)) x.content ∙ kept-twice a.keeper.content first.records second.records;
  state = y.state;
  puts = omega (arith, x.puts, y.puts);
  failures = omega (arith, x.failures, y.failures);
  untouched = λ none. y.untouched (omega (arith, none)) ∙ x.untouched (omega (arith, none));
  steps = omega (arith, x.steps, y.steps);
  clock = told_then first.moments second.moments a.clock b.clock c.clock x.clock y.clock;
}

-- what a load finds keeps step over two stretches, one after the other
pub finds_then : (f g h : Option Found) (a b c : KeeperTold) → a.faults ≤ b.faults → b.faults ≤ c.faults → FindsOn f g a b → FindsOn g h b c → FindsOn f h a c
finds_then f g h a b c up on x y = record {
  more = λ was. y.more (x.more was);
  exactly = λ same below was. y.exactly (omega (arith, same, up, on)) below (x.exactly (omega (arith, same, up, on)) (omega (arith, below, on)) was);
}

-- ---- items, one after the other

-- one more item is served
served_then : (items : List Item) (item : Item) (a b c : World) → AreServed a items b → ItemServed b c item → AreServed a (items ++ item ∷ []) c
served_then [] item a b c all one = (c, subst (λ (w : World). ItemServed w c item) all one, refl)
served_then (x ∷ items) item a b c all one = (all.0, all.1, served_then items item all.0 b c all.2 one)

-- items that were served have one outcome in all
pub in_all : (items : List Item) (before now : World) → AreServed before items now → InAll before now items
in_all [] before now same = record {
  outcome = writes before.lasting.state [];
  serves = refl;
  changed = subst (λ (w : World). Changed before.lasting w.lasting (writes before.lasting.state [])) (sym same) (changed_nothing before.lasting []);
  written = ap (λ (w : World). w.written) same ∙ sym (then_more-nil before.written);
}
in_all (item ∷ items) before now all =
    let one = all.1 in
    let rest = in_all items all.0 now all.2 in
    record {
      outcome = followed_by one.outcome rest.outcome;
      serves = (one.outcome, rest.outcome, one.serves, subst (λ (t : State). Serves t items rest.outcome) one.changed.state rest.serves, refl);
      changed = changed_then before.lasting all.0.lasting now.lasting one.outcome rest.outcome one.changed rest.changed;
      written = rest.written ∙ ap (λ (k : Option (List ℕ)). then_more k rest.outcome.written) one.written ∙ then_more_twice before.written one.outcome.written rest.outcome.written;
    }

-- ---- the last item

last_refused : (items : List Item) (item : Item) → is_refused (items ++ item ∷ []) ≡ is_refused (item ∷ [])
last_refused [] item = refl
last_refused (x ∷ []) item = refl
last_refused (x ∷ y ∷ items) item = last_refused (y ∷ items) item

last_closed : (items : List Item) (item : Item) → is_closed (items ++ item ∷ []) ≡ is_closed (item ∷ [])
last_closed [] item = refl
last_closed (x ∷ []) item = refl
last_closed (x ∷ y ∷ items) item = last_closed (y ∷ items) item

-- ---- so far

-- what came of a connection so far: bytes were read, the items that they told were served, and none of them ends the
-- connection
pub record SoFar (before now : World) (from to : Reading) (m : Stream) : Type 0 where
  pub bytes : List ℕ
  pub items : List Item
  pub told : Told bytes items m
  pub read : Read from to bytes
  pub served : AreServed before items now
  pub not_refused : is_refused items ≡ false
  pub not_closed : is_closed items ≡ false

read-nil : (r : Reading) → Read r r []
read-nil r = record { given = sym (then_more-nil r.given); left = sym (more_before-nil r.left) }

read-then : (a b c : Reading) (x y : List ℕ) → Read a b x → Read b c y → Read a c (x ++ y)
read-then a b c x y p q = record {
  given = q.given ∙ ap (λ (k : Option (List ℕ)). then_more k y) p.given ∙ then_more_twice a.given x y;
  left = p.left ∙ ap (more_before x) q.left ∙ more_before_twice c.left x y;
}

-- at the start
pub so_far_nothing : (w : World) (r : Reading) → SoFar w w r r new_stream
so_far_nothing w r = record {
  bytes = [];
  items = [];
  told = told_nothing;
  read = read-nil r;
  served = refl;
  not_refused = refl;
  not_closed = refl;
}

-- bytes were read
pub so_far_read : (w n : World) (from to after : Reading) (m m' : Stream) (count : ℕ) → SoFar w n from to m → ReadOn to after m m' count → 0 < count → SoFar w n from after m'
so_far_read w n from to after m m' count s r some = record {
  bytes = s.bytes ++ r.bytes;
  items = s.items;
  told = subst (Told (s.bytes ++ r.bytes) s.items) (sym (r.fed some)) (told_fed s.bytes s.items m r.bytes s.told);
  read = read-then from to after s.bytes r.bytes s.read r.read;
  served = s.served;
  not_refused = s.not_refused;
  not_closed = s.not_closed;
}

-- nothing came any more
pub so_far_end : (w n : World) (from to after : Reading) (m m' : Stream) (count : ℕ) → SoFar w n from to m → ReadOn to after m m' count → count ≡ 0 → SoFar w n from after m'
so_far_end w n from to after m m' count s r zero_is =
    let none : r.bytes ≡ [] = length-zero r.bytes (r.length_is ∙ zero_is) in
    record {
      bytes = s.bytes;
      items = s.items;
      told = subst (Told s.bytes s.items) (sym (r.ended zero_is).0) s.told;
      read = subst (Read from after) (ap (λ (b : List ℕ). s.bytes ++ b) none ∙ append-nil s.bytes) (read-then from to after s.bytes r.bytes s.read r.read);
      served = s.served;
      not_refused = s.not_refused;
      not_closed = s.not_closed;
    }
  where
    length-zero : (bytes : List ℕ) → length bytes ≡ 0 → bytes ≡ []
    length-zero [] is = refl
    length-zero (b ∷ bytes) is = absurd (omega (arith, is))

-- where the stream stands after bytes came
pub after_read : (to after : Reading) (m m' : Stream) (count : ℕ) → ReadOn to after m m' count → 0 < count → m.last ≡ Some next.More
    → (m'.place ≡ m.place) × (length m'.bytes ≡ length m.bytes + count) × (m'.closed ≡ m.closed) × (fault_in m'.last ≡ None) × (m'.continued ≡ m.continued)
after_read to after m m' count r some asked =
    let is = r.fed some in (
      ap (λ (s : Stream). s.place) is,
      ap (λ (s : Stream). length s.bytes) is ∙ length-append m.bytes r.bytes ∙ ap (λ (n : ℕ). length m.bytes + n) r.length_is,
      ap (λ (s : Stream). s.closed) is,
      ap (λ (s : Stream). fault_in s.last) is ∙ ap (λ (l : Option Next). fault_in (kept_answer l)) asked,
      ap (λ (s : Stream). s.continued) is,
    )

-- the stream stands elsewhere, with the same told
so_far_at : (w n : World) (from to : Reading) (m m' : Stream) (s : SoFar w n from to m) → Told s.bytes s.items m' → SoFar w n from to m'
so_far_at w n from to m m' s told = record {
  bytes = s.bytes;
  items = s.items;
  told = told;
  read = s.read;
  served = s.served;
  not_refused = s.not_refused;
  not_closed = s.not_closed;
}

-- `More` was answered
pub so_far_more : (w n : World) (from to : Reading) (m : Stream) → SoFar w n from to m → SoFar w n from to (answered m next.More)
so_far_more w n from to m s = so_far_at w n from to m (answered m next.More) s (told_more s.bytes s.items m s.told)

-- a request was answered
pub so_far_answer : (w n : World) (from to : Reading) (m : Stream) (r : Request) → SoFar w n from to m → SoFar w n from to (answered m (next.Request r))
so_far_answer w n from to m r s = so_far_at w n from to m (answered m (next.Request r)) s (told_answer s.bytes s.items m r s.told)

-- an item was served that doesn't end the connection
so_far_served : (w n after : World) (from to : Reading) (m m' : Stream) (item : Item) (s : SoFar w n from to m) → ItemServed n after item
    → is_refused (item ∷ []) ≡ false → is_closed (item ∷ []) ≡ false → Told s.bytes (s.items ++ item ∷ []) m' → SoFar w after from to m'
so_far_served w n after from to m m' item s served refused closed told = record {
  bytes = s.bytes;
  items = s.items ++ item ∷ [];
  told = told;
  read = s.read;
  served = served_then s.items item w n after s.served served;
  not_refused = last_refused s.items item ∙ refused;
  not_closed = last_closed s.items item ∙ closed;
}

-- `Continue` was answered and written
pub so_far_continue : (w n after : World) (from to : Reading) (m : Stream) → FirstItem m.place m.bytes m.continued false (Some continue)
    → AddsAnswer m next.Continue (answered m next.Continue) → SoFar w n from to m → ItemServed n after continue → SoFar w after from to (answered m next.Continue)
so_far_continue w n after from to m first adds s served =
    so_far_served w n after from to m (answered m next.Continue) continue s served refl refl (told_continue s.bytes s.items m first adds s.told)

-- a request that keeps the connection was served and dropped
pub so_far_request : (w n after : World) (from to : Reading) (m : Stream) (r : Request) → r.close ≡ false → r.body.end ≤ length m.bytes
    → FirstItem m.place m.bytes m.continued false (Some (request (message_of m.bytes r))) → AddsRequest m r (dropped m r)
    → SoFar w n from to m → ItemServed n after (request (message_of m.bytes r)) → SoFar w after from to (dropped m r)
so_far_request w n after from to m r keeps fits first adds s served =
    so_far_served w n after from to m (dropped m r) (request (message_of m.bytes r)) s served refl keeps (told_request s.bytes s.items m r keeps fits first adds s.told)

-- text is written for an item, and nothing else happens
pub item_written : (n : World) (item : Item) (text : List ℕ) (written : Option (List ℕ)) → ServesItem n.lasting.state item (writes n.lasting.state text) → written ≡ then_more n.written text
    → ItemServed n (record n { written = written }) item
item_written n item text written serves is = record {
  outcome = writes n.lasting.state text;
  serves = serves;
  changed = changed_nothing n.lasting text;
  written = is;
}

-- the sink failed in the text of an item, and nothing else happened
pub item_broken : (n : World) (item : Item) (text : List ℕ) (written : Option (List ℕ)) → ServesItem n.lasting.state item (writes n.lasting.state text) → HoldsPart n.written written text
    → ItemBroken n (record n { written = written }) item
item_broken n item text written serves front = record {
  outcome = writes n.lasting.state text;
  serves = serves;
  changed = changed_nothing n.lasting text;
  written = front;
}

-- ---- what that comes to

-- all that came was served, and its items are these
served_all : (w n : World) (from to : Reading) (m : Stream) (ended : Bool) (s : SoFar w n from to m) → HasItems s.bytes ended s.items → (ended ≡ true → IfSome to.left (λ rest. rest ≡ []))
    → Served w n from to ended s.items
served_all w n from to m ended s are whole = record {
  bytes = s.bytes;
  read = s.read;
  whole = whole;
  are_items = are;
  served = s.served;
  in_all = in_all s.items w n s.served;
}

-- all that came was served, and one more item behind it
served_more : (w n after : World) (from to : Reading) (m : Stream) (ended : Bool) (item : Item) (s : SoFar w n from to m) → ItemServed n after item
    → HasItems s.bytes ended (s.items ++ item ∷ []) → (ended ≡ true → IfSome to.left (λ rest. rest ≡ [])) → Served w after from to ended (s.items ++ item ∷ [])
served_more w n after from to m ended item s served are whole =
    let all = served_then s.items item w n after s.served served in
    record {
      bytes = s.bytes;
      read = s.read;
      whole = whole;
      are_items = are;
      served = all;
      in_all = in_all (s.items ++ item ∷ []) w after all;
    }

-- the source ended, and nothing but empty lines was left
pub done_at_end : (w n : World) (from to : Reading) (m : Stream) → SoFar w n from to m → ItemsFrom m [] true [] → IfSome to.left (λ rest. rest ≡ []) → IsDone w n from to
done_at_end w n from to m s are whole =
    let all = subst (HasItems s.bytes true) (append-nil s.items) (items_with s.bytes s.items m true [] s.told are) in
    (true, s.items, served_all w n from to m true s all (λ _. whole), s.not_refused, inl (refl, s.not_closed))

-- a request was served that closes the connection
pub done_at_close : (w n after : World) (from to : Reading) (m : Stream) (r : Request) → r.close ≡ true → AddsRequest m r (dropped m r)
    → SoFar w n from to m → ItemServed n after (request (message_of m.bytes r)) → IsDone w after from to
done_at_close w n after from to m r closes adds s served =
    let item = request (message_of m.bytes r) in
    let last : ItemsFrom m [] false (item ∷ []) = adds [] false [] (subst (λ (c : Bool). AreAfter c [] (ItemsFrom (dropped m r) [] false [])) (sym closes) refl) in
    let all = items_with s.bytes s.items m false (item ∷ []) s.told last in (
      false,
      s.items ++ item ∷ [],
      served_more w n after from to m false item s served all (λ e. absurd (cc)),
      last_refused s.items item,
      inr (refl, last_closed s.items item ∙ closes),
    )

-- a fault was told
pub refused_at : (w n after : World) (from to : Reading) (m : Stream) (ended : Bool) (f : Fault) → ItemsFrom m [] ended (fault f ∷ []) → (ended ≡ true → IfSome to.left (λ rest. rest ≡ []))
    → SoFar w n from to m → ItemServed n after (fault f) → IsRefused w after from to
refused_at w n after from to m ended f last whole s served =
    let all = items_with s.bytes s.items m ended (fault f ∷ []) s.told last in
    (ended, s.items ++ fault f ∷ [], served_more w n after from to m ended (fault f) s served all whole, last_refused s.items (fault f))

-- the source failed
pub unread_at : (w n : World) (from to : Reading) (m : Stream) → SoFar w n from to m → FirstItem m.place m.bytes m.continued false None → IsSourceFailed w n from to
unread_at w n from to m s none =
    (s.items, served_all w n from to m false s (items_so_far s.bytes s.items m s.told none) (λ e. absurd (cc)), s.not_refused, s.not_closed)

-- the sink failed at the first item that is decided
pub broken_at : (w n after : World) (from to : Reading) (m : Stream) (item : Item) → FirstItem m.place m.bytes m.continued false (Some item) → SoFar w n from to m → ItemBroken n after item → IsSinkFailed w after from to
broken_at w n after from to m item first s broken = record {
  bytes = s.bytes;
  ended = false;
  read = s.read;
  whole = λ e. absurd (cc);
  items = s.items;
  item = item;
  begins = begins_with s.bytes s.items m item s.told first;
  between = n;
  served = s.served;
  in_all = in_all s.items w n s.served;
  broken = broken;
}

-- the sink failed at the fault at the end
pub broken_at_end : (w n after : World) (from to : Reading) (m : Stream) (f : Fault) → ItemsFrom m [] true (fault f ∷ []) → IfSome to.left (λ rest. rest ≡ []) → SoFar w n from to m → ItemBroken n after (fault f) → IsSinkFailed w after from to
broken_at_end w n after from to m f last whole s broken = record {
  bytes = s.bytes;
  ended = true;
  read = s.read;
  whole = λ _. whole;
  items = s.items;
  item = fault f;
  begins = λ all are.
      let same = items_unique all (s.items ++ fault f ∷ []) 0 s.bytes false true are (items_with s.bytes s.items m true (fault f ∷ []) s.told last) in
      ([], same ∙ sym (append-nil (s.items ++ fault f ∷ [])));
  between = n;
  served = s.served;
  in_all = in_all s.items w n s.served;
  broken = broken;
}

-- ---- one answer of the stream, as the loop sees it

or_false : (b : Bool) → b || false ≡ b
or_false true = refl
or_false false = refl

-- `More` was answered
pub more_step : (w n : World) (from to : Reading) (m a : Stream) → a ≡ answered m next.More → SoFar w n from to m → SoFar w n from to a
more_step w n from to m a is s = subst (SoFar w n from to) (sym is) (so_far_more w n from to m s)

-- `Continue` was answered and written
pub continue_step : (w n after : World) (from to : Reading) (m a : Stream) → a ≡ answered m next.Continue → TellsItem m next.Continue → AddsAnswer m next.Continue a
    → SoFar w n from to m → ItemServed n after continue → SoFar w after from to a
continue_step w n after from to m a is first adds s served =
    subst (SoFar w after from to) (sym is) (so_far_continue w n after from to m first (subst (AddsAnswer m next.Continue) is adds) s served)

-- a request was answered, and it is the first item
answered_first : (m : Stream) (r : Request) → TellsItem m (next.Request r)
    → let a = answered m (next.Request r) in FirstItem a.place a.bytes a.continued false (Some (request (message_of a.bytes r)))
answered_first m r first = subst (λ (c : Bool). FirstItem m.place m.bytes c false (Some (request (message_of m.bytes r)))) (sym (or_false m.continued)) first

-- a request that keeps the connection was served and dropped
pub request_step : (w n after : World) (from to : Reading) (m a d : Stream) (r : Request) → a ≡ answered m (next.Request r) → d ≡ dropped a r → AddsRequest a r d
    → r.close ≡ false → r.body.end ≤ length a.bytes → TellsItem m (next.Request r) → SoFar w n from to m → ItemServed n after (request (message_of a.bytes r)) → SoFar w after from to d
request_step w n after from to m a d r is drops adds keeps fits first s served =
    let here = subst (SoFar w n from to) (sym is) (so_far_answer w n from to m r s) in
    let item = subst (λ (b : Stream). FirstItem b.place b.bytes b.continued false (Some (request (message_of b.bytes r)))) (sym is) (answered_first m r first) in
    subst (SoFar w after from to) (sym drops) (so_far_request w n after from to a r keeps fits item (subst (AddsRequest a r) drops adds) here served)

-- a request that closes the connection was served and dropped
pub close_step : (w n after : World) (from to : Reading) (m a d : Stream) (r : Request) → a ≡ answered m (next.Request r) → d ≡ dropped a r → AddsRequest a r d
    → r.close ≡ true → SoFar w n from to m → ItemServed n after (request (message_of a.bytes r)) → IsDone w after from to
close_step w n after from to m a d r is drops adds closes s served =
    let here = subst (SoFar w n from to) (sym is) (so_far_answer w n from to m r s) in
    done_at_close w n after from to a r closes (subst (AddsRequest a r) drops adds) here served

-- the sink failed in the response to a request
pub broken_step : (w n after : World) (from to : Reading) (m a : Stream) (r : Request) → a ≡ answered m (next.Request r) → TellsItem m (next.Request r)
    → SoFar w n from to m → ItemBroken n after (request (message_of a.bytes r)) → IsSinkFailed w after from to
broken_step w n after from to m a r is first s broken =
    let here = subst (SoFar w n from to) (sym is) (so_far_answer w n from to m r s) in
    let item = subst (λ (b : Stream). FirstItem b.place b.bytes b.continued false (Some (request (message_of b.bytes r)))) (sym is) (answered_first m r first) in
    broken_at w n after from to a (request (message_of a.bytes r)) item here broken

-- ---- the end

module _ (w n : World) (from to : Reading) (e : Ended) where
  -- the serving ended at the end of the source, or at a fault
  pub ends_by : (e ≡ Done → IsDone w n from to) → (e ≡ Refused → IsRefused w n from to) → (e ≡ SinkFailed → IsSinkFailed w n from to)
      → (e ≡ Done) ⊎ (e ≡ Refused) ⊎ (e ≡ SinkFailed) → EndsAs e w n from to
  ends_by done refused broken either = elim either [
    | inl is ↦ subst (λ (x : Ended). EndsAs x w n from to) (sym is) (done is)
    | inr other ↦ elim other [
      | inl is ↦ subst (λ (x : Ended). EndsAs x w n from to) (sym is) (refused is)
      | inr is ↦ subst (λ (x : Ended). EndsAs x w n from to) (sym is) (broken is)
    ]
  ]

-- where the stream stands after a request was dropped
pub after_request : (m a d : Stream) (r : Request) → a ≡ answered m (next.Request r) → d ≡ dropped a r → r.body.end ≤ length a.bytes
    → (d.place ≡ m.place + r.body.end) × (length d.bytes + r.body.end ≡ length m.bytes) × (d.closed ≡ r.close) × (fault_in d.last ≡ None)
after_request m a d r is drops fits = (
  ap (λ (s : Stream). s.place) drops ∙ ap (λ (s : Stream). s.place + r.body.end) is,
  omega (
    arith,
    ap (λ (s : Stream). length s.bytes) drops ∙ length-drop r.body.end a.bytes,
    ap (λ (s : Stream). length s.bytes) is,
    fits,
  ),
  ap (λ (s : Stream). s.closed) drops,
  ap (λ (s : Stream). fault_in s.last) drops,
)

-- a source is bounded where it was asked
pub bounded_by : (p b b0 : ℕ) → p + b ≡ b0 → b < 2 ^ 64 → (0 < p → b0 < 2 ^ 64) → b0 < 2 ^ 64
bounded_by zero b b0 is low h = omega (arith, is, low)
bounded_by (suc p) b b0 is low h = h (omega arith)

-- fewer bytes are held
pub measure_less : (b p q : ℕ) (c d : Bool) → q < p → 4 * b + 2 * q + (if d then 0 else 1) < 4 * b + 2 * p + (if c then 0 else 1)
measure_less b p q true true less = omega (arith, less)
measure_less b p q true false less = omega (arith, less)
measure_less b p q false true less = omega (arith, less)
measure_less b p q false false less = omega (arith, less)

-- what holds where something is answered holds of the answer
pub of_some : {X : Type 0} (o : Option X) (x : X) (P : X → Type 0) → o ≡ Some x → IfSome o P → P x
of_some None x P is h = absurd (cc)
of_some (Some y) x P is h = let same : y ≡ x = cc in subst P same h
