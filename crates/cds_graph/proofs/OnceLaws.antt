-- Lists in which each key stands once, and what is kept under such keys.
use Rattle.std.proofs.Common.{◌≡◌, ◌∙◌, ℕ, ◌+◌, ◌<◌, ◌≤◌, Bool, true, false, not, ◌||◌, cond, List, [], ◌∷◌, ◌++◌}
use Rattle.std.proofs.Common.{length, get_or, take, map, Option, Some, None, option_map, find, refl, sym, ap, ap₂}
use Rattle.std.proofs.Common.{subst}
use Rattle.std.proofs.Common.{append-nil, append_assoc, arith, drop, take-append-drop, true≢false, if◌then◌else◌}
use Rattle.std.specs.Bool.{Decides}
use Rattle.std.specs.List.{filter, list_any}
use Rattle.std.specs.Prelude.{All, is_some, sum_by}
use Rattle.std.proofs.lemmas.List.{map-append, take_more}
use Rattle.std.proofs.lemmas.List.Elements.{All-head, All-tail, filter-append}
use Rattle.std.proofs.lemmas.List.Sums.{sum_by-append}
use Rattle.cds_graph.specs.Keys.{once, new_keys}

-- keys are told apart by this test
module _ {K : Type 0} (same : K → K → Bool) (decides : (a b : K) → Decides (same a b) (a ≡ b)) where
  -- a key is the same as itself
  pub same-self : (k : K) → same k k ≡ true
  same-self k = (decides k k).1 refl

  -- the test is the same both ways
  pub same-back : (a b : K) → same a b ≡ same b a
  same-back a b = by_test (same a b) refl
    where
      by_test : (t : Bool) → same a b ≡ t → t ≡ same b a
      by_test true is = sym ((decides b a).1 (sym ((decides a b).0 is)))
      by_test false is = by_other (same b a) refl
        where
          by_other : (u : Bool) → same b a ≡ u → false ≡ u
          by_other false back = refl
          by_other true back =
              absurd (true≢false (sym ((decides a b).1 (sym ((decides b a).0 back))) ∙ is))

  -- a key is among those that aren't another one where it is among all
  list_any-others : (k y : K) (xs : List K) → same k y ≡ false →
      list_any (same k) (filter (λ other. not (same y other)) xs) ≡ list_any (same k) xs
  list_any-others k y [] apart = refl
  list_any-others k y (x ∷ xs) apart = by_test (same y x) refl (list_any-others k y xs apart)
    where
      by_test : (t : Bool) → same y x ≡ t →
          list_any (same k) (filter (λ other. not (same y other)) xs) ≡ list_any (same k) xs →
          list_any (same k) (cond (not t) (x ∷ filter (λ other. not (same y other)) xs)
          (filter (λ other. not (same y other)) xs)) ≡ (same k x || list_any (same k) xs)
      by_test true is later =
          let one : same k x ≡ false = subst (λ z. same k z ≡ false) ((decides y x).0 is) apart in
          rw one later
      by_test false is later = ap (λ t. same k x || t) later

  -- a key is among keys that stand once where it is among all
  pub list_any-once : (k : K) (xs : List K) → list_any (same k) (once same xs) ≡ list_any (same k) xs
  list_any-once k [] = refl
  list_any-once k (x ∷ xs) = by_test (same k x) refl (list_any-once k xs)
    where
      by_test : (t : Bool) → same k x ≡ t → list_any (same k) (once same xs) ≡ list_any (same k) xs →
          (t || list_any (same k) (filter (λ other. not (same x other)) (once same xs))) ≡ (t || list_any (same k) xs)
      by_test true is later = refl
      by_test false is later = list_any-others k x (once same xs) is ∙ later

  -- one more key stands behind the others unless it is among them
  pub once-more : (xs : List K) (k : K) → once same (xs ++ k ∷ [])
      ≡ (if list_any (same k) (once same xs) then once same xs else once same xs ++ k ∷ [])
  once-more [] k = refl
  once-more (x ∷ xs) k = by_test (same k x) refl (list_any (same k) (once same xs)) refl (once-more xs k)
    where
      others : List K → List K
      others = filter (λ other. not (same x other))

      More : Bool → Type 0
      More u = once same (xs ++ k ∷ []) ≡ (if u then once same xs else once same xs ++ k ∷ [])

      by_test : (t : Bool) → same k x ≡ t → (u : Bool) → list_any (same k) (once same xs) ≡ u →
          More (list_any (same k) (once same xs)) → x ∷ others (once same (xs ++ k ∷ []))
          ≡ (if t || list_any (same k) (others (once same xs)) then x ∷ others (once same xs)
          else (x ∷ others (once same xs)) ++ k ∷ [])
      by_test true is true among more = ap (λ l. x ∷ others l) (subst More among more)
      by_test true is false among more =
          let drops : others (k ∷ []) ≡ [] = rw (same-back x k, is) refl in
          ap (λ l. x ∷ others l) (subst More among more)
          ∙ ap (λ l. x ∷ l) (filter-append (λ other. not (same x other)) (once same xs) (k ∷ []))
          ∙ ap (λ l. x ∷ (others (once same xs) ++ l)) drops
          ∙ ap (λ l. x ∷ l) (append-nil (others (once same xs)))
      by_test false is true among more =
          rw (list_any-others k x (once same xs) is, among) (ap (λ l. x ∷ others l) (subst More among more))
      by_test false is false among more =
          let stays : others (k ∷ []) ≡ k ∷ [] = rw (same-back x k, is) refl in
          rw (list_any-others k x (once same xs) is, among) (ap (λ l. x ∷ others l) (subst More among more)
          ∙ ap (λ l. x ∷ l) (filter-append (λ other. not (same x other)) (once same xs) (k ∷ []))
          ∙ ap (λ l. x ∷ (others (once same xs) ++ l)) stays)

  -- the keys of a list up to and with a place where its key stands before
  pub once-known : (keys : List K) (i : ℕ) (k : K) → i < length keys → k ≡ get_or keys i k →
      list_any (same k) (once same (take i keys)) ≡ true → once same (take (i + 1) keys) ≡ once same (take i keys)
  once-known keys i k within is known =
      rw (take_more keys i k within, ← is, once-more (take i keys) k, known) refl

  -- and where it doesn't
  pub once-new : (keys : List K) (i : ℕ) (k : K) → i < length keys → k ≡ get_or keys i k →
      list_any (same k) (once same (take i keys)) ≡ false →
      once same (take (i + 1) keys) ≡ once same (take i keys) ++ k ∷ []
  once-new keys i k within is new =
      rw (take_more keys i k within, ← is, once-more (take i keys) k, new) refl

  -- one more key that isn't known costs its own
  pub cost-one : (cost : K → ℕ) (known : List K) (k : K) → list_any (same k) known ≡ false →
      sum_by cost (new_keys same known (k ∷ [])) ≡ cost k
  cost-one cost known k new = rw new (omega arith)

  -- keys and one more cost what both do
  cost-append : (cost : K → ℕ) (known keys : List K) (k : K) → sum_by cost (new_keys same known (keys ++ k ∷ []))
      ≡ sum_by cost (new_keys same known keys) + sum_by cost (new_keys same known (k ∷ []))
  cost-append cost known keys k =
      ap (sum_by cost) (filter-append (λ key. not (list_any (same key) known)) keys (k ∷ []))
      ∙ sum_by-append cost (new_keys same known keys) (new_keys same known (k ∷ []))

  -- the keys up to and with a new one cost what those before it and it do
  pub cost-new : (cost : K → ℕ) (known keys : List K) (i : ℕ) (k : K) → i < length keys → k ≡ get_or keys i k →
      list_any (same k) (once same (take i keys)) ≡ false →
      sum_by cost (new_keys same known (once same (take (i + 1) keys)))
      ≡ sum_by cost (new_keys same known (once same (take i keys))) + sum_by cost (new_keys same known (k ∷ []))
  cost-new cost known keys i k within is new =
      ap (λ l. sum_by cost (new_keys same known l)) (once-new keys i k within is new)
      ∙ cost-append cost known (once same (take i keys)) k

  -- more keys don't cost less
  cost-longer : (cost : K → ℕ) (known xs ys : List K) → sum_by cost (new_keys same known (once same xs))
      ≤ sum_by cost (new_keys same known (once same (xs ++ ys)))
  cost-longer cost known xs [] = rw (append-nil xs) (omega arith)
  cost-longer cost known xs (y ∷ ys) =
      let later = cost-longer cost known (xs ++ y ∷ []) ys in
      let one = by_test (list_any (same y) (once same xs)) refl in
      let alike : (xs ++ y ∷ []) ++ ys ≡ xs ++ y ∷ ys = append_assoc xs (y ∷ []) ys in
      let more : sum_by cost (new_keys same known (once same (xs ++ y ∷ [])))
      ≤ sum_by cost (new_keys same known (once same (xs ++ y ∷ ys))) =
      subst (λ l. sum_by cost (new_keys same known (once same (xs ++ y ∷ []))) ≤
      sum_by cost (new_keys same known (once same l))) alike later in
      omega (arith, one, more)
    where
      by_test : (t : Bool) → list_any (same y) (once same xs) ≡ t →
          sum_by cost (new_keys same known (once same xs))
          ≤ sum_by cost (new_keys same known (once same (xs ++ y ∷ [])))
      by_test true among = rw (once-more xs y, among) (omega arith)
      by_test false among =
          rw (once-more xs y, among, cost-append cost known (once same xs) y) (omega arith)

  -- and those up to a place no more than all
  pub cost-take : (cost : K → ℕ) (known keys : List K) (i : ℕ) →
      sum_by cost (new_keys same known (once same (take i keys))) ≤ sum_by cost (new_keys same known (once same keys))
  cost-take cost known keys i =
      subst (λ l. sum_by cost (new_keys same known (once same (take i keys)))
      ≤ sum_by cost (new_keys same known (once same l))) (take-append-drop i keys)
      (cost-longer cost known (take i keys) (drop i keys))

  -- what is kept under keys, as it is held
  module _ {N R : Type 0} (shown : N → R) (key_of : N → K) (make : K → R) (kept_key : R → K)
      (shows : (n : N) → kept_key (shown n) ≡ key_of n) (makes : (k : K) → kept_key (make k) ≡ k) where
    -- what is found under a key among what is kept under these keys
    pub found-kept : (nodes : List N) (keys : List K) (k : K) → map shown nodes ≡ map make keys →
        option_map shown (find (λ n. same (key_of n) k) nodes)
        ≡ (if list_any (same k) keys then Some (make k) else None)
    found-kept [] [] k alike = refl
    found-kept [] (x ∷ xs) k alike = cc
    found-kept (n ∷ ns) [] k alike = cc
    found-kept (n ∷ ns) (x ∷ xs) k alike =
        let here : shown n ≡ make x = cc in
        let rest : map shown ns ≡ map make xs = cc in
        let key : key_of n ≡ x = sym (shows n) ∙ ap kept_key here ∙ makes x in
        rw (key, same-back x k) (by_test here (found-kept ns xs k rest) (same k x) refl)
      where
        by_test : shown n ≡ make x → option_map shown (find (λ m. same (key_of m) k) ns)
            ≡ (if list_any (same k) xs then Some (make k) else None) → (t : Bool) → same k x ≡ t →
            option_map shown (cond t (Some n) (find (λ m. same (key_of m) k) ns))
            ≡ (if t || list_any (same k) xs then Some (make k) else None)
        by_test here later true is = ap Some (here ∙ ap make (sym ((decides k x).0 is)))
        by_test here later false is = later

    -- a key under which something is found is among the keys
    pub kept-among : (nodes : List N) (keys : List K) (k : K) → map shown nodes ≡ map make keys →
        list_any (same k) keys ≡ is_some (find (λ n. same (key_of n) k) nodes)
    kept-among nodes keys k alike =
        by_test (list_any (same k) keys) (find (λ n. same (key_of n) k) nodes) (found-kept nodes keys k alike)
      where
        by_test : (t : Bool) (o : Option N) → option_map shown o ≡ (if t then Some (make k) else None) →
            t ≡ is_some o
        by_test true None is = cc
        by_test true (Some n) is = refl
        by_test false None is = refl
        by_test false (Some n) is = cc

    -- what is found under a key is what it names
    pub kept-is : (nodes : List N) (keys : List K) (k : K) (n : N) → map shown nodes ≡ map make keys →
        find (λ m. same (key_of m) k) nodes ≡ Some n → shown n ≡ make k
    kept-is nodes keys k n alike is =
        by_test (list_any (same k) keys) (sym (ap (option_map shown) is) ∙ found-kept nodes keys k alike)
      where
        by_test : (t : Bool) → Some (shown n) ≡ (if t then Some (make k) else None) → shown n ≡ make k
        by_test true same = cc
        by_test false same = cc

    -- what is right under each key is right where it is found
    pub right-is : (nodes : List N) (k : K) (n : N) → All (λ r. r ≡ make (kept_key r)) (map shown nodes) →
        find (λ m. same (key_of m) k) nodes ≡ Some n → shown n ≡ make k
    right-is [] k n right is = cc
    right-is (m ∷ ms) k n right is =
        by_test (same (key_of m) k) refl is
        (right-is ms k n (All-tail (λ r. r ≡ make (kept_key r)) (shown m) (map shown ms) right))
      where
        by_test : (t : Bool) → same (key_of m) k ≡ t → cond t (Some m) (find (λ x. same (key_of x) k) ms) ≡ Some n →
            (find (λ x. same (key_of x) k) ms ≡ Some n → shown n ≡ make k) → shown n ≡ make k
        by_test true same is later =
            let one : m ≡ n = cc in
            let key : key_of m ≡ k = (decides (key_of m) k).0 same in
            subst (λ x. shown x ≡ make k) one
            (All-head (λ r. r ≡ make (kept_key r)) (shown m) (map shown ms) right
            ∙ ap make (shows m ∙ key))
        by_test false same is later = later is

    -- nothing has a key under which nothing is found
    pub none-under : (nodes : List N) (k : K) → find (λ m. same (key_of m) k) nodes ≡ None →
        list_any (same k) (map kept_key (map shown nodes)) ≡ false
    none-under [] k is = refl
    none-under (m ∷ ms) k is =
        rw (shows m, same-back k (key_of m)) (by_test (same (key_of m) k) is (none-under ms k))
      where
        by_test : (t : Bool) → cond t (Some m) (find (λ x. same (key_of x) k) ms) ≡ None →
            (find (λ x. same (key_of x) k) ms ≡ None → list_any (same k) (map kept_key (map shown ms)) ≡ false) →
            (t || list_any (same k) (map kept_key (map shown ms))) ≡ false
        by_test true is later = cc
        by_test false is later = later is

    -- a key that is known adds nothing
    pub add-known : (nodes : List N) (keys : List K) (i : ℕ) (k : K) → i < length keys → k ≡ get_or keys i k →
        map shown nodes ≡ map make (once same (take i keys)) →
        is_some (find (λ m. same (key_of m) k) nodes) ≡ true →
        once same (take (i + 1) keys) ≡ once same (take i keys)
    add-known nodes keys i k within is alike found =
        once-known keys i k within is (kept-among nodes (once same (take i keys)) k alike ∙ found)

    -- a key that isn't known is new
    pub key-new : (nodes : List N) (keys : List K) (i : ℕ) (k : K) →
        map shown nodes ≡ map make (once same (take i keys)) →
        is_some (find (λ m. same (key_of m) k) nodes) ≡ false → list_any (same k) (once same (take i keys)) ≡ false
    key-new nodes keys i k alike none = kept-among nodes (once same (take i keys)) k alike ∙ none

    -- and is kept behind the others
    pub add-new : (nodes : List N) (node : N) (keys : List K) (i : ℕ) (k : K) → i < length keys →
        k ≡ get_or keys i k → map shown nodes ≡ map make (once same (take i keys)) →
        is_some (find (λ m. same (key_of m) k) nodes) ≡ false → shown node ≡ make k →
        map shown (nodes ++ node ∷ []) ≡ map make (once same (take (i + 1) keys))
    add-new nodes node keys i k within is alike none one =
        rw (
          once-new keys i k within is (key-new nodes keys i k alike none),
          map-append shown nodes (node ∷ []),
          map-append make (once same (take i keys)) (k ∷ []),
          alike,
          one,
        ) refl
