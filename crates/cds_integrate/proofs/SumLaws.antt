-- Conservation in a cluster: the areas of its parts over one baseline line are together the area over the whole line.
use Rattle.std.proofs.Common.{◌≡◌, ℕ, ◌-◌, ◌*◌, ◌<◌, ◌≤◌, inl, inr, Bool, true, false, List, [], ◌∷◌, ◌++◌, map, ℤ, pos}
use Rattle.std.proofs.Common.{◌+ℤ◌, ◌-ℤ◌, ◌*ℤ◌, refl, sym, ap, subst, ◌∙◌, append_assoc, arith}
use Rattle.std.specs.Prelude.{nat_le, ◌==◌, if◌then◌else◌}
use Rattle.std.specs.List.{fold, filter, list_any}
use Rattle.std.proofs.lemmas.Bool.{cases_Bool, cases_lt}
use Rattle.std.proofs.lemmas.Int.{ints}
use Rattle.std.proofs.lemmas.Grind.{common_steps}
use Rattle.std.proofs.lemmas.List.{length-map}
use Rattle.cds_area.proofs.LineLaws.{add-mul}
use Rattle.cds_base.specs.declared.event.Event.{Event}
use Rattle.cds_base.specs.declared.cluster.Part.{Part}
use Rattle.cds_base.specs.declared.cluster.Cluster.{Cluster}
use Rattle.cds_base.specs.Tiles.{Tiles}
use Rattle.cds_trace.specs.Signal.{Signal}
use Rattle.cds_trace.specs.Heights.{span}
use Rattle.cds_area.specs.Area.{area_by_double_span}
use Rattle.cds_area.proofs.AreaLaws.{area-split}
use Rattle.cds_events.specs.Standing.{IsCluster}
use Rattle.cds_integrate.specs.Shapes.{Shape}
use Rattle.cds_integrate.specs.Measures.{Measured}
use Rattle.cds_trace.specs.Heights.{chord}
use Rattle.cds_integrate.specs.Lines.{line_over, last_up_to, first_behind}
use Rattle.cds_integrate.specs.Shapes.{is_covered, nodes_of, is_rider, rider_shape, plain_shape, shape_of, shapes_of}
use Rattle.cds_integrate.specs.Measures.{riders, twice_area, twice_areas, gross_area, area_of, measure, measured}
use Rattle.cds_integrate.specs.Sums.{AreOver, AreTogether, area_fraction, lies_within, IsConserved, EachTwo}
use Rattle.cds_integrate.specs.Row.{parts_in}
use Rattle.cds_integrate.specs.Standing.{from_reach, IsShape, InRow}
use Rattle.cds_integrate.proofs.NumberLaws.{mul-mul}
use Rattle.cds_integrate.proofs.PartLaws.{IsClear}
use Rattle.cds_integrate.proofs.RowLaws.{reach-on, reach-end, reach-low}
use Rattle.cds_integrate.proofs.AreaLaws.{gross-rider, twice-from, twice-end}
use Rattle.cds_integrate.proofs.NodeLaws.{Each}
use Rattle.cds_integrate.proofs.ShapeLaws.{rider-apart, reach-clear}
use Rattle.cds_integrate.proofs.OrderLaws.{Up, AreNodes, cluster-nodes, between-nodes, nodes-rise, each-mid, any-mid}

-- what a part's area is over a line of this span
abbrev pub share_of : Signal → ℕ → Measured → ℤ
share_of signal width part = if part.shape.rider then twice_area signal part.shape *ℤ pos width else part.area

-- a sum from a number on
pub sum-from : (sum : ℤ) (shares : List ℤ) → fold ◌+ℤ◌ sum shares ≡ sum +ℤ fold ◌+ℤ◌ (pos 0) shares
sum-from sum [] = omega (arith, ints)
sum-from sum (share ∷ shares) =
    let a = sum-from (sum +ℤ share) shares in
    let b = sum-from (pos 0 +ℤ share) shares in
    rw (a, b) (omega (arith, ints))

-- the parts between two samples of those that begin at `start`, their shares and what these are together
pub record IsWalked (signal : Signal) (a b start : ℕ) (shapes : List Shape) : Type 0 where
  pub each : AreOver (2 * (b - a)) (map (share_of signal (b - a)) (filter (lies_within a b) (measured signal shapes)))
      (map area_fraction (filter (lies_within a b) (measured signal shapes)))
  pub sum : fold ◌+ℤ◌ (pos 0) (map (share_of signal (b - a)) (filter (lies_within a b) (measured signal shapes)))
      ≡ twice_areas signal (riders shapes) *ℤ pos (b - a) +ℤ area_by_double_span signal (chord signal a b)
      (from_reach start shapes) b

-- a part that doesn't lie between the two
pub filter-out : (signal : Signal) (a b : ℕ) (shape : Shape) (later : List Shape) →
    lies_within a b (measure signal shape later) ≡ false →
    filter (lies_within a b) (measured signal (shape ∷ later)) ≡ filter (lies_within a b) (measured signal later)
filter-out signal a b shape later out = rw out refl

filter-in : (signal : Signal) (a b : ℕ) (shape : Shape) (later : List Shape) →
    lies_within a b (measure signal shape later) ≡ true →
    filter (lies_within a b) (measured signal (shape ∷ later)) ≡ measure signal shape later ∷ filter (lies_within a b)
    (measured signal later)
filter-in signal a b shape later in_it = rw in_it refl

pub within-not-left : (a b : ℕ) (part : Measured) → part.shape.start < a → lies_within a b part ≡ false
within-not-left a b part before =
    let left : nat_le a part.shape.start ≡ false = grind (arith, common_steps) in
    rw left refl

within-not-right : (a b : ℕ) (part : Measured) → b < part.shape.end → lies_within a b part ≡ false
within-not-right a b part behind =
    let right : nat_le part.shape.end b ≡ false = grind (arith, common_steps) in
    elim (cases_Bool (nat_le a part.shape.start)) [
      | inl is ↦ rw (is, right) refl
      | inr other ↦ rw other refl
    ]

within-yes : (a b : ℕ) (part : Measured) → a ≤ part.shape.start → part.shape.end ≤ b → lies_within a b part ≡ true
within-yes a b part left right =
    let l : nat_le a part.shape.start ≡ true = grind (arith, common_steps) in
    let r : nat_le part.shape.end b ≡ true = grind (arith, common_steps) in
    rw (l, r) refl

-- no part that begins at the right one or behind it
pub none-within : (signal : Signal) (a b start end : ℕ) (shapes : List Shape) → b ≤ start →
    InRow signal start shapes end →
    filter (lies_within a b) (measured signal shapes) ≡ []
none-within signal a b start end [] behind row = refl
none-within signal a b start end (shape ∷ later) behind row =
    let out = within-not-right a b (measure signal shape later) (omega (arith, behind, row.0, row.1.order)) in
    filter-out signal a b shape later out ∙ none-within signal a b shape.reach end later
    (omega (arith, behind, row.0, row.1.order, row.1.reaches)) row.3

-- no riders
walk-none : (signal : Signal) (a b start end : ℕ) (shapes : List Shape) → b ≡ start → InRow signal start shapes end →
    riders shapes ≡ [] → IsWalked signal a b start shapes
walk-none signal a b start end shapes at row free =
    let none = none-within signal a b start end shapes (omega (arith, at)) row in
    let nothing : b - b ≡ 0 = omega arith in
    record {
      each = rw none tt;
      sum = rw (none, free, sym at, nothing) (omega (arith, ints));
    }

-- a product of three, in another order
cross : (t : ℤ) (s x : ℕ) → (t *ℤ pos s) *ℤ pos (2 * x) ≡ (t *ℤ pos x) *ℤ pos (2 * s)
cross t s x =
    let e : s * (2 * x) ≡ x * (2 * s) = omega arith in
    mul-mul t s (2 * x) ∙ (ap (λ (k : ℕ). t *ℤ pos k) e ∙ sym (mul-mul t x (2 * s)))

-- the sum with a rider more, and with a parent more
rider-sum : (share whole rest areas later : ℤ) (width : ℕ) → share ≡ whole *ℤ pos width →
    rest ≡ later *ℤ pos width +ℤ areas →
    (pos 0 +ℤ share) +ℤ rest ≡ (whole +ℤ later) *ℤ pos width +ℤ areas
rider-sum share whole rest areas later width is sum = rw (is, sum) (simp add-mul (omega (arith, ints)))

plain-sum : (share gross taken rest behind all : ℤ) (width : ℕ) → share ≡ gross -ℤ taken → rest ≡ taken +ℤ behind →
    gross +ℤ behind ≡ all →
    (pos 0 +ℤ share) +ℤ rest ≡ pos 0 *ℤ pos width +ℤ all
plain-sum share gross taken rest behind all width is sum split = omega (arith, ints, is, sum, split)

-- the area of a rider, and of another part over a chord
rider-area : (signal : Signal) (shape : Shape) (later : List Shape) → shape.rider ≡ true →
    area_of signal shape later ≡ gross_area signal shape later
rider-area signal shape later rider = rw rider refl

plain-area : (signal : Signal) (a b : ℕ) (shape : Shape) (later : List Shape) → shape.rider ≡ false →
    shape.line ≡ chord signal a b →
    area_of signal shape later ≡ area_by_double_span signal (chord signal a b) shape.start
    (from_reach shape.end later) -ℤ twice_areas signal (riders later) *ℤ pos (b - a)
plain-area signal a b shape later other line = rw (other, line) refl

-- twice the areas with a rider more
twice-one : (signal : Signal) (shape : Shape) (later : List Shape) → shape.rider ≡ true →
    twice_areas signal (riders (shape ∷ later)) ≡ twice_area signal shape +ℤ twice_areas signal (riders later)
twice-one signal shape later rider =
    let b = twice-from signal (pos 0 +ℤ twice_area signal shape) (riders later) in
    rw rider (rw b (omega (arith, ints)))

-- one rider more
walk-rider : (signal : Signal) (a b start : ℕ) (shape : Shape) (later : List Shape) → shape.rider ≡ true →
    IsShape signal shape → a ≤ shape.start → shape.reach ≤ b →
    IsWalked signal a b shape.reach later → IsWalked signal a b start (shape ∷ later)
walk-rider signal a b start shape later rider is left right rest =
    let part : Measured = measure signal shape later in
    let width : ℕ = b - a in
    let t : ℤ = twice_area signal shape in
    let wide : 0 < 2 * span shape.line = omega (arith, is.from, is.order, is.to) in
    let kept = filter-in signal a b shape later (within-yes a b part left (omega (arith, is.reaches, right))) in
    let shares : List ℤ = map (share_of signal width) (filter (lies_within a b) (measured signal later)) in
    let share : share_of signal width part ≡ t *ℤ pos width = rw rider refl in
    let area = rider-area signal shape later rider ∙ gross-rider signal shape later is rider in
    let one : share_of signal width part *ℤ pos (2 * span shape.line) ≡ area_of signal shape later *ℤ pos (2 * width) =
    ap (λ z. z *ℤ pos (2 * span shape.line)) share ∙ (cross t width (span shape.line) ∙ ap (λ z. z *ℤ pos (2 * width))
    (sym area)) in
    let areas : ℤ = area_by_double_span signal (chord signal a b) (from_reach shape.reach later) b in
    let target : twice_areas signal (riders (shape ∷ later)) *ℤ pos width +ℤ area_by_double_span signal
    (chord signal a b) (from_reach start (shape ∷ later)) b
    ≡ (t +ℤ twice_areas signal (riders later)) *ℤ pos width +ℤ areas =
    rw (twice-one signal shape later rider, reach-on start shape later rider) refl in
    record {
      each = rw kept (wide, one, rest.each);
      sum = rw kept (sum-from (pos 0 +ℤ share_of signal width part) shares ∙
          (rider-sum (share_of signal width part) t (fold ◌+ℤ◌ (pos 0) shares) areas
          (twice_areas signal (riders later)) width share rest.sum ∙ sym target));
    }

-- one other part more
walk-plain : (signal : Signal) (a b start end : ℕ) (shape : Shape) (later : List Shape) → shape.rider ≡ false →
    shape.line ≡ chord signal a b → IsShape signal shape → shape.start ≡ start →
    a ≤ shape.start → shape.end ≡ shape.reach → shape.reach ≤ b → from_reach shape.reach later ≤ b →
    InRow signal shape.reach later end →
    IsWalked signal a b shape.reach later → IsWalked signal a b start (shape ∷ later)
walk-plain signal a b start end shape later other line is at left whole right far row rest =
    let part : Measured = measure signal shape later in
    let width : ℕ = b - a in
    let wide : 0 < 2 * span shape.line = omega (arith, is.from, is.order, is.to) in
    let kept = filter-in signal a b shape later (within-yes a b part left (omega (arith, is.reaches, right))) in
    let shares : List ℤ = map (share_of signal width) (filter (lies_within a b) (measured signal later)) in
    let same : share_of signal width part ≡ area_of signal shape later = rw other refl in
    let one : share_of signal width part *ℤ pos (2 * span shape.line) ≡ area_of signal shape later *ℤ pos (2 * width) =
    ap (λ z. z *ℤ pos (2 * span shape.line)) same ∙ ap (λ l. area_of signal shape later *ℤ pos (2 * span l)) line in
    let reach : ℕ = from_reach shape.reach later in
    let gross : ℤ = area_by_double_span signal (chord signal a b) shape.start reach in
    let taken : ℤ = twice_areas signal (riders later) *ℤ pos width in
    let behind : ℤ = area_by_double_span signal (chord signal a b) reach b in
    let share : share_of signal width part ≡ gross -ℤ taken =
    same ∙ (plain-area signal a b shape later other line ∙ ap
    (λ n. area_by_double_span signal (chord signal a b) shape.start (from_reach n later) -ℤ taken) whole) in
    let low = reach-low signal later shape.reach shape.reach end (omega arith) row in
    let split = area-split signal (chord signal a b) shape.start reach b (omega (arith, low, is.order, whole)) far in
    let target : twice_areas signal (riders (shape ∷ later)) *ℤ pos width +ℤ area_by_double_span signal
    (chord signal a b) (from_reach start (shape ∷ later)) b
    ≡ pos 0 *ℤ pos width +ℤ area_by_double_span signal (chord signal a b) shape.start b =
    rw (twice-end signal shape later other, reach-end start shape later other, at) refl in
    record {
      each = rw kept (wide, one, rest.each);
      sum = rw kept (sum-from (pos 0 +ℤ share_of signal width part) shares ∙
          (plain-sum (share_of signal width part) gross taken (fold ◌+ℤ◌ (pos 0) shares) behind
          (area_by_double_span signal (chord signal a b) shape.start b) width share rest.sum split ∙ sym target));
    }

-- a part at a node has no riders before it
free-at : (signal : Signal) (events : List Event) (nodes : List ℕ) (node start end : ℕ) (parts : List Part) →
    Tiles start parts end → start ≡ node →
    list_any (λ other. other == node) nodes ≡ true → riders (map (shape_of signal events nodes) parts) ≡ []
free-at signal events nodes node start end [] tiled at among = refl
free-at signal events nodes node start end (part ∷ parts) tiled at among =
    elim (cases_Bool (is_rider signal events nodes part)) [
      | inl is ↦
          let same : part.start ≡ node = tiled.0 ∙ at in
          let apart : list_any (λ other. other == part.start) nodes ≡ false = rider-apart signal events nodes part is in
          absurd (grind (arith, common_steps, among, rw same at apart))
      | inr other ↦
          let shape : shape_of signal events nodes part ≡ plain_shape signal nodes part = rw other refl in
          rw shape refl
    ]

-- the shape of a part reaches to its end
shape-reach : (signal : Signal) (events : List Event) (nodes : List ℕ) (part : Part) →
    (shape_of signal events nodes part).reach ≡ part.end
shape-reach signal events nodes part =
    elim (cases_Bool (is_rider signal events nodes part)) [
      | inl is ↦ rw is refl
      | inr other ↦ rw other refl
    ]

-- parts from the left node on
walk : (signal : Signal) (events : List Event) (nodes : List ℕ) (a b end : ℕ) →
    ((s : ℕ) → a ≤ s → s < b → line_over signal nodes s ≡ chord signal a b) →
    list_any (λ other. other == b) nodes ≡ true → b ≤ end → (start : ℕ) (parts : List Part) → Tiles start parts end →
    IsClear parts b →
    InRow signal start (map (shape_of signal events nodes) parts) end → a ≤ start → start ≤ b →
    IsWalked signal a b start (map (shape_of signal events nodes) parts)
walk signal events nodes a b end lines among inside start [] tiled clear row left right =
    walk-none signal a b start end [] (omega (arith, tiled, inside, right)) row refl
walk signal events nodes a b end lines among inside start (part ∷ parts) tiled clear row left right =
    let later : List Shape = map (shape_of signal events nodes) parts in
    elim (cases_lt start b) [
      | inl before ↦
          let beyond : part.end ≤ b = elim clear.0 [
            | inl low ↦ absurd (omega (arith, low, tiled.0, before))
            | inr high ↦ high
          ] in
          let next : InRow signal part.end later end = rw (shape-reach signal events nodes part) at row.3 in
          let rest = walk signal events nodes a b end lines among inside part.end parts tiled.2 clear.1 next
          (omega (arith, left, tiled.1)) beyond in
          elim (cases_Bool (is_rider signal events nodes part)) [
            | inl is ↦
                let shape : shape_of signal events nodes part ≡ rider_shape signal part = rw is refl in
                let here : IsShape signal (rider_shape signal part) = rw shape at row.1 in
                rw shape (walk-rider signal a b start (rider_shape signal part) later refl here
                (omega (arith, left, tiled.0)) beyond rest)
            | inr other ↦
                let shape : shape_of signal events nodes part ≡ plain_shape signal nodes part = rw other refl in
                let here : IsShape signal (plain_shape signal nodes part) = rw shape at row.1 in
                let far = reach-clear signal events nodes b part.end part.end end parts tiled.2 beyond beyond clear.1
                among in
                rw shape (walk-plain signal a b start end (plain_shape signal nodes part) later refl
                (lines part.start (omega (arith, left, tiled.0)) (omega (arith, before, tiled.0))) here tiled.0
                (omega (arith, left, tiled.0)) refl beyond far next rest)
          ]
      | inr at ↦ walk-none signal a b start end (map (shape_of signal events nodes) (part ∷ parts))
          (omega (arith, at, right)) row
          (free-at signal events nodes b start end (part ∷ parts) tiled (omega (arith, at, right)) among)
    ]

-- the parts between two nodes in a row
approach : (signal : Signal) (events : List Event) (nodes : List ℕ) (a b end : ℕ) →
    ((s : ℕ) → a ≤ s → s < b → line_over signal nodes s ≡ chord signal a b) →
    list_any (λ other. other == a) nodes ≡ true → list_any (λ other. other == b) nodes ≡ true → a < b → b ≤ end →
    (start : ℕ) (parts : List Part) → Tiles start parts end →
    IsClear parts a → IsClear parts b → InRow signal start (map (shape_of signal events nodes) parts) end → start ≤ a →
    IsConserved signal (measured signal (map (shape_of signal events nodes) parts)) a b
approach signal events nodes a b end lines first among order inside start [] tiled low clear row left =
    absurd (omega (arith, tiled, inside, order, left))
approach signal events nodes a b end lines first among order inside start (part ∷ parts) tiled low clear row left =
    let shapes : List Shape = map (shape_of signal events nodes) (part ∷ parts) in
    let later : List Shape = map (shape_of signal events nodes) parts in
    elim (cases_lt start a) [
      | inl before ↦
          let beyond : part.end ≤ a = elim low.0 [
            | inl under ↦ absurd (omega (arith, under, tiled.0, before))
            | inr high ↦ high
          ] in
          let next : InRow signal part.end later end = rw (shape-reach signal events nodes part) at row.3 in
          let rest = approach signal events nodes a b end lines first among order inside part.end parts tiled.2 low.1
          clear.1 next beyond in
          let out = filter-out signal a b (shape_of signal events nodes part) later
          (within-not-left a b (measure signal (shape_of signal events nodes part) later)
          (omega (arith, row.0, before))) in
          subst (λ (k : List Measured). AreTogether (map area_fraction k)
          (area_by_double_span signal (chord signal a b) a b) (2 * span (chord signal a b))) (sym out) rest
      | inr at ↦
          let here : start ≡ a = omega (arith, at, left) in
          let free = free-at signal events nodes a start end (part ∷ parts) tiled here first in
          let walked = walk signal events nodes a b end lines among inside start (part ∷ parts) tiled clear row
          (omega (arith, here)) (omega (arith, here, order)) in
          let target : twice_areas signal (riders shapes) *ℤ pos (b - a) +ℤ area_by_double_span signal
          (chord signal a b) (from_reach start shapes) b ≡ area_by_double_span signal (chord signal a b) a b =
          rw (free, here) (omega (arith, ints)) in
          record {
            some = omega (arith, order);
            shares = map (share_of signal (b - a)) (filter (lies_within a b) (measured signal shapes));
            each = walked.each;
            sum = walked.sum ∙ target;
          }
    ]

-- the parts between each two nodes in a row
conserved-from : (signal : Signal) (events : List Event) (nodes : List ℕ) (start end : ℕ) (parts : List Part) →
    AreNodes nodes parts start end → Tiles start parts end →
    InRow signal start (map (shape_of signal events nodes) parts) end → (front back : List ℕ) → nodes ≡ front ++ back →
    EachTwo (IsConserved signal (measured signal (map (shape_of signal events nodes) parts))) back
conserved-from signal events nodes start end parts are tiled row front [] e = tt
conserved-from signal events nodes start end parts are tiled row front (a ∷ []) e = tt
conserved-from signal events nodes start end parts are tiled row front (a ∷ b ∷ back) e =
    let e' : nodes ≡ (front ++ a ∷ []) ++ b ∷ back = e ∙ sym (append_assoc front (a ∷ []) (b ∷ back)) in
    let up : Up (front ++ a ∷ b ∷ back) = subst Up e are.up in
    let P : ℕ → Type 0 = λ n. (start ≤ n) × (n ≤ end) × IsClear parts n in
    let left = each-mid P front a (b ∷ back) (subst (Each P) e are.places) in
    let right = each-mid P (front ++ a ∷ []) b back (subst (Each P) e' are.places) in
    let lines : (s : ℕ) → a ≤ s → s < b → line_over signal nodes s ≡ chord signal a b =
    λ s low high.
    let at = between-nodes front a b back s up low high in
    let from : last_up_to nodes s ≡ a = ap (λ ns. last_up_to ns s) e ∙ at.0 in
    let to : first_behind nodes s ≡ b = ap (λ ns. first_behind ns s) e ∙ at.1 in
    ap (λ n. chord signal n (first_behind nodes s)) from ∙ ap (chord signal a) to in
    let first : list_any (λ other. other == a) nodes ≡ true =
    ap (list_any (λ other. other == a)) e ∙ any-mid front a (b ∷ back) in
    let among : list_any (λ other. other == b) nodes ≡ true =
    ap (list_any (λ other. other == b)) e' ∙ any-mid (front ++ a ∷ []) b back in (
      approach signal events nodes a b end lines first among (nodes-rise front a b back up) right.1 start parts tiled
          left.2 right.2 row left.0,
      conserved-from signal events nodes start end parts are tiled row (front ++ a ∷ []) (b ∷ back) e',
    )

-- the areas over each baseline line of a cluster
pub cluster-conserved : (signal : Signal) (events : List Event) (cluster : Cluster) → IsCluster signal 0 cluster →
    InRow signal cluster.start (shapes_of signal events cluster) cluster.end →
    EachTwo (IsConserved signal (parts_in signal events cluster)) (nodes_of signal events cluster)
cluster-conserved signal events cluster is row =
    let covered : List Bool = map (is_covered signal events) cluster.parts in
    let are = cluster-nodes signal cluster covered is.some is.tiled
    (length-map cluster.parts (is_covered signal events)) in
    conserved-from signal events (nodes_of signal events cluster) cluster.start cluster.end cluster.parts are is.tiled
    row [] (nodes_of signal events cluster) refl
