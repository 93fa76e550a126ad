-- The path of a route that is written with a name and a number is found on this route.
use Rattle.std.proofs.Common.{◌≡◌, ◌≢◌, ℕ, zero, suc, ◌+◌, ◌-◌, Bool, true, false, ◌&&◌, cond, not, ltb, nat_eq, ◌==◌, List, [], ◌∷◌, ◌++◌, length, drop, codes, get_or, is_some, Option, Some, None, IsTrue, refl, sym, ap, ◌∙◌, arith, append-nil, length-append, if◌then◌else◌}
use Rattle.std.specs.List.{list_all, before_first, after_first, position_or_len}
use Rattle.std.specs.Char.{is_ascii_digit}
use Rattle.std.specs.Cmp.Lexicographic.{pointwise}
use Rattle.std.proofs.lemmas.Bool.Decides.{nat_tests}
use Rattle.matchit.proofs.OnLiterals.{matchit_on_literals}
use Rattle.matchit.specs.Rows.{RowsOf, param_token}
use Rattle.matchit.specs.Router.{RouteOf}
use Rattle.matchit.specs.Seek.{first, seek, step, own, param_step, longest_suffix, with_suffix, has_slash, cuts, segment as front}
use Rattle.cds_base.specs.NameText.{IsName, is_name, is_name_byte, name_of}
use Rattle.cds_words.specs.Numbers.{is_number, number_of, number_in, within}
use Rattle.cds_desk.specs.declared.target.TheConstants.{MOST_PATH_NUMBER}
use Rattle.cds_desk.specs.Routes.{route_table, is_slash, is_question_mark, path_of, segment, number_at, number_in_path, path_number, target_of, path_with, number_of_path}
use Rattle.cds_desk.specs.declared.routes.Route.{Route}
use Rattle.cds_desk.specs.declared.routes.Route.TheVariants as route

-- ---- texts without a slash, a question mark or a token

-- the number is no slash, no question mark and no token
record Plain (b : ℕ) : Type 0 where
  slash : b ≢ 47
  mark : b ≢ 63
  token : b ≢ 256

abbrev ArePlain : List ℕ → Type 0
ArePlain [] = Unit {0}
ArePlain (b ∷ w) = Plain b × ArePlain w

and_left : (a b : Bool) → (a && b) ≡ true → a ≡ true
and_left true b h = refl
and_left false b h = absurd (cc)

and_right : (a b : Bool) → (a && b) ≡ true → b ≡ true
and_right true b h = h
and_right false b h = absurd (cc)

-- a byte that passes a test which another fails is another byte
passes_other : (test : ℕ → Bool) (b x : ℕ) → test b ≡ true → test x ≡ false → b ≢ x
passes_other test b x h n = λ e. let same : true ≡ false = sym h ∙ ap test e ∙ n in absurd (cc)

are_plain : (test : ℕ → Bool) → test 47 ≡ false → test 63 ≡ false → test 256 ≡ false → (w : List ℕ) → list_all test w ≡ true → ArePlain w
are_plain test s m t [] all = tt
are_plain test s m t (b ∷ w) all =
    let here = and_left (test b) (list_all test w) all in (
      record { slash = passes_other test b 47 here s; mark = passes_other test b 63 here m; token = passes_other test b 256 here t },
      are_plain test s m t w (and_right (test b) (list_all test w) all),
    )

differs : (a b : ℕ) → a ≢ b → (a == b) ≡ false
differs a b n = grind (arith, nat_tests)

-- ---- cutting a text at its first slash

one_more : (n : ℕ) → 1 + n ≡ suc n
one_more n = omega arith

before_plain : (w rest : List ℕ) → ArePlain w → before_first is_slash (w ++ rest) ≡ w ++ before_first is_slash rest
before_plain [] rest h = refl
before_plain (b ∷ w) rest h =
    rw (differs b 47 h.0.slash, one_more (position_or_len is_slash (w ++ rest))) (ap (λ (x : List ℕ). b ∷ x) (before_plain w rest h.1))

after_plain : (w rest : List ℕ) → ArePlain w → after_first is_slash (w ++ 47 ∷ rest) ≡ rest
after_plain [] rest h = refl
after_plain (b ∷ w) rest h =
    let n = position_or_len is_slash (w ++ 47 ∷ rest) in
    let e : 1 + n + 1 ≡ suc (n + 1) = omega arith in
    rw (differs b 47 h.0.slash, e) (after_plain w rest h.1)

before_all : (w : List ℕ) → ArePlain w → before_first is_slash w ≡ w
before_all w h = ap (before_first is_slash) (sym (append-nil w)) ∙ before_plain w [] h ∙ append-nil w

-- no question mark stands in the text
abbrev unmarked : List ℕ → Bool
unmarked w = list_all (λ b. not (is_question_mark b)) w

path_all : (w : List ℕ) → unmarked w ≡ true → path_of w ≡ w
path_all [] h = refl
path_all (b ∷ w) h =
    let here = and_left (not (is_question_mark b)) (unmarked w) h in
    rw (here, one_more (position_or_len is_question_mark w)) (ap (λ (x : List ℕ). b ∷ x) (path_all w (and_right (not (is_question_mark b)) (unmarked w) h)))

plain_unmarked : (w : List ℕ) → ArePlain w → unmarked w ≡ true
plain_unmarked [] h = refl
plain_unmarked (b ∷ w) h = rw (differs b 63 h.0.mark) (plain_unmarked w h.1)

unmarked_both : (a b : List ℕ) → unmarked a ≡ true → unmarked b ≡ true → unmarked (a ++ b) ≡ true
unmarked_both [] b x y = y
unmarked_both (c ∷ a) b x y =
    let here = and_left (not (is_question_mark c)) (unmarked a) x in
    rw here (unmarked_both a b (and_right (not (is_question_mark c)) (unmarked a) x) y)

-- ---- what `matchit` sees of such a text

front_plain : (w : List ℕ) → ArePlain w → front w ≡ w
front_plain [] h = refl
front_plain (b ∷ w) h = rw (differs b 47 h.0.slash) (ap (λ (x : List ℕ). b ∷ x) (front_plain w h.1))

front_slash : (w rest : List ℕ) → ArePlain w → front (w ++ 47 ∷ rest) ≡ w ++ 47 ∷ []
front_slash [] rest h = refl
front_slash (b ∷ w) rest h = rw (differs b 47 h.0.slash) (ap (λ (x : List ℕ). b ∷ x) (front_slash w rest h.1))

has_none : (w : List ℕ) → ArePlain w → has_slash w ≡ false
has_none [] h = refl
has_none (b ∷ w) h = rw (differs b 47 h.0.slash) (has_none w h.1)

-- the last byte is no slash
last_plain : (b : ℕ) (w : List ℕ) → ArePlain (b ∷ w) → pointwise nat_eq (47 ∷ []) (drop (length w) (b ∷ w)) ≡ false
last_plain b [] h = rw (differs 47 b (λ e. h.0.slash (sym e))) refl
last_plain b (c ∷ w) h = last_plain c w h.1

cuts_of : (seg tail : List ℕ) → drop (length seg - 1) seg ≡ tail → cuts seg (47 ∷ []) ≡ (ltb 1 (length seg) && pointwise nat_eq (47 ∷ []) tail)
cuts_of seg tail is = ap (λ (x : List ℕ). ltb 1 (length seg) && pointwise nat_eq (47 ∷ []) x) is

and_false : (a b : Bool) → b ≡ false → (a && b) ≡ false
and_false true b is = is
and_false false b is = refl

cuts_not : (w : List ℕ) → ArePlain w → cuts w (47 ∷ []) ≡ false
cuts_not [] h = refl
cuts_not (b ∷ []) h = refl
cuts_not (b ∷ c ∷ w) h =
    let e : length (b ∷ c ∷ w) - 1 ≡ suc (length w) = omega arith in
    cuts_of (b ∷ c ∷ w) (drop (length w) (c ∷ w)) (ap (λ (n : ℕ). drop n (b ∷ c ∷ w)) e) ∙ and_false _ _ (last_plain c w h.1)

drop_at : (w rest : List ℕ) → drop (length w) (w ++ rest) ≡ rest
drop_at [] rest = refl
drop_at (b ∷ w) rest = drop_at w rest

cuts_one : (b : ℕ) (w : List ℕ) → cuts (b ∷ w ++ 47 ∷ []) (47 ∷ []) ≡ true
cuts_one b w =
    let seg : List ℕ = b ∷ w ++ 47 ∷ [] in
    let e : length seg - 1 ≡ suc (length w) = omega (arith, length-append w (47 ∷ [])) in
    let long : ltb 1 (length seg) ≡ true = grind (arith, nat_tests, length-append w (47 ∷ [])) in
    cuts_of seg (47 ∷ []) (ap (λ (n : ℕ). drop n seg) e ∙ drop_at w (47 ∷ [])) ∙ ap (λ (x : Bool). x && true) long

-- ---- the walk of `matchit`

module _ {K : Type 0} where
  -- the rows that go on behind these bytes
  abbrev behind : List ℕ → RowsOf K → RowsOf K
  behind [] rs = rs
  behind (b ∷ w) rs = behind w (step b rs)

  -- a route that is found behind bytes is found with them
  seek_text : (w p : List ℕ) (rs : RowsOf K) (k : K) → seek 0 (behind w rs) p ≡ Some k → seek 0 rs (w ++ p) ≡ Some k
  unfolding seek
  seek_text [] p rs k is = is
  seek_text (b ∷ w) p rs k is = rw (seek_text w p (step b rs) k is) refl

  param_nothing : (p : List ℕ) → (param_step {K = K} [] p).1 ≡ []
  unfolding param_step
  param_nothing p =
      elim (has_slash p) as (λ v. (cond {A = ℕ × RowsOf K} v (0, []) (length p, [])).1 ≡ []) [
        | true ↦ refl
        | false ↦ refl
      ]

  seek_nothing : (skip : ℕ) (p : List ℕ) → seek {K = K} skip [] p ≡ None
  unfolding seek
  seek_nothing skip [] = refl
  seek_nothing (suc skip) (b ∷ p) = seek_nothing skip p
  seek_nothing zero (b ∷ p) = simp (seek_nothing 0 p, param_nothing (b ∷ p), seek_nothing (((param_step {K = K} [] (b ∷ p)).0) - 1) p)

  -- bytes are passed over
  seek_over : (w p : List ℕ) (rs : RowsOf K) → seek (length w) rs (w ++ p) ≡ seek 0 rs p
  unfolding seek
  seek_over [] p rs = refl
  seek_over (b ∷ w) p rs = seek_over w p rs

  -- what is found by a parameter is found, where no byte goes on
  seek_param : (b : ℕ) (p : List ℕ) (rs : RowsOf K) (n : ℕ) (next : RowsOf K) (k : K) → step b rs ≡ [] → param_step (step param_token rs) (b ∷ p) ≡ (suc n, next)
      → seek n next p ≡ Some k → seek 0 rs (b ∷ p) ≡ Some k
  unfolding seek
  seek_param b p rs n next k none takes is =
      let e : suc n - 1 ≡ n = omega arith in
      rw (none, seek_nothing 0 p, takes, e, is) refl

  seek_all : (w : List ℕ) (rs : RowsOf K) → seek (length w) rs w ≡ own rs
  unfolding seek
  seek_all [] rs = refl
  seek_all (b ∷ w) rs = seek_all w rs

  -- a parameter takes a text that ends the path
  takes_all : (b : ℕ) (w : List ℕ) (rs : RowsOf K) → ArePlain (b ∷ w) → longest_suffix (b ∷ w) rs ≡ [] → param_step rs (b ∷ w) ≡ (suc (length w), rs)
  unfolding param_step
  takes_all b w rs h none = rw (front_plain (b ∷ w) h, none, has_none (b ∷ w) h) refl

  -- a parameter takes a text before a slash
  takes_segment : (b : ℕ) (w rest : List ℕ) (rs : RowsOf K) → ArePlain (b ∷ w) → longest_suffix (b ∷ w ++ 47 ∷ []) rs ≡ 47 ∷ []
      → param_step rs (b ∷ w ++ 47 ∷ rest) ≡ (suc (length w), with_suffix (47 ∷ []) rs)
  unfolding param_step
  takes_segment b w rest rs h slash =
      let e : length (b ∷ w ++ 47 ∷ []) - 1 ≡ suc (length w) = omega (arith, length-append w (47 ∷ [])) in
      rw (front_slash (b ∷ w) rest h, slash, e) refl

  -- the route that ends with a parameter at its end
  found_last : (text : List ℕ) (b : ℕ) (w : List ℕ) (table : RowsOf K) (k : K) → ArePlain (b ∷ w) → step b (behind text table) ≡ []
      → longest_suffix (b ∷ w) (step param_token (behind text table)) ≡ [] → own (step param_token (behind text table)) ≡ Some k
      → first table (text ++ b ∷ w) ≡ Some k
  found_last text b w table k h none ends is =
      let rs = step param_token (behind text table) in
      seek_text text (b ∷ w) table k
      (seek_param b w (behind text table) (length w) rs k none (takes_all b w rs h ends) (seek_all w rs ∙ is))

  -- the route that goes on behind a parameter
  found_behind : (text : List ℕ) (b : ℕ) (w rest : List ℕ) (table : RowsOf K) (k : K) → ArePlain (b ∷ w) → step b (behind text table) ≡ []
      → longest_suffix (b ∷ w ++ 47 ∷ []) (step param_token (behind text table)) ≡ 47 ∷ []
      → first (with_suffix (47 ∷ []) (step param_token (behind text table))) (47 ∷ rest) ≡ Some k
      → first table (text ++ (b ∷ w ++ 47 ∷ rest)) ≡ Some k
  found_behind text b w rest table k h none slash is =
      let rs = step param_token (behind text table) in
      seek_text text (b ∷ w ++ 47 ∷ rest) table k
      (seek_param b (w ++ 47 ∷ rest) (behind text table) (length w) (with_suffix (47 ∷ []) rs) k none (takes_segment b w rest rs h slash)
      (seek_over w (47 ∷ rest) (with_suffix (47 ∷ []) rs) ∙ is))

-- ---- the routes

-- a route is found for the path
record Found (r : Route) (path : List ℕ) : Type 0 where
  entry : RouteOf Route
  is : first route_table path ≡ Some entry
  value : entry.value ≡ r

put_trace : (b : ℕ) (w : List ℕ) → ArePlain (b ∷ w) → Found route.PutTrace (codes "/traces/" ++ b ∷ w)
unfolding matchit_on_literals
put_trace b w h =
    let no = differs 256 b (λ e. h.0.token (sym e)) in
    record { entry = _; is = found_last (codes "/traces/") b w route_table _ h (rw no refl) (rw (cuts_not (b ∷ w) h) refl) refl; value = refl }

get_trace : (b : ℕ) (w : List ℕ) (d : ℕ) (ds : List ℕ) → ArePlain (b ∷ w) → ArePlain (d ∷ ds) → Found route.GetTrace (codes "/traces/" ++ (b ∷ w ++ 47 ∷ (d ∷ ds)))
unfolding matchit_on_literals
get_trace b w d ds h g =
    let no = differs 256 b (λ e. h.0.token (sym e)) in
    let none = differs 256 d (λ e. g.0.token (sym e)) in
    let rows = with_suffix (47 ∷ []) (step param_token (behind (codes "/traces/") route_table)) in
    let last = found_last (47 ∷ []) d ds rows _ g (rw none refl) refl refl in
    record { entry = _; is = found_behind (codes "/traces/") b w (d ∷ ds) route_table _ h (rw no refl) (rw (cuts_one b w) refl) last; value = refl }

put_draft : (b : ℕ) (w : List ℕ) → ArePlain (b ∷ w) → Found route.PutDraft (codes "/methods/" ++ (b ∷ w ++ codes "/draft"))
unfolding matchit_on_literals
put_draft b w h =
    let no = differs 256 b (λ e. h.0.token (sym e)) in
    record { entry = _; is = found_behind (codes "/methods/") b w (codes "draft") route_table _ h (rw no refl) (rw (cuts_one b w) refl) refl; value = refl }

post_version : (b : ℕ) (w : List ℕ) → ArePlain (b ∷ w) → Found route.PostVersion (codes "/methods/" ++ (b ∷ w ++ codes "/versions"))
unfolding matchit_on_literals
post_version b w h =
    let no = differs 256 b (λ e. h.0.token (sym e)) in
    record { entry = _; is = found_behind (codes "/methods/") b w (codes "versions") route_table _ h (rw no refl) (rw (cuts_one b w) refl) refl; value = refl }

get_method : (b : ℕ) (w : List ℕ) (d : ℕ) (ds : List ℕ) → ArePlain (b ∷ w) → ArePlain (d ∷ ds) → Found route.GetMethod (codes "/methods/" ++ (b ∷ w ++ (codes "/versions/" ++ (d ∷ ds))))
unfolding matchit_on_literals
get_method b w d ds h g =
    let no = differs 256 b (λ e. h.0.token (sym e)) in
    let none = differs 256 d (λ e. g.0.token (sym e)) in
    let rows = with_suffix (47 ∷ []) (step param_token (behind (codes "/methods/") route_table)) in
    let last = found_last (codes "/versions/") d ds rows _ g (rw none refl) refl refl in
    record { entry = _; is = found_behind (codes "/methods/") b w (codes "versions/" ++ (d ∷ ds)) route_table _ h (rw no refl) (rw (cuts_one b w) refl) last; value = refl }

put_sequence : (b : ℕ) (w : List ℕ) → ArePlain (b ∷ w) → Found route.PutSequence (codes "/sequences/" ++ b ∷ w)
unfolding matchit_on_literals
put_sequence b w h =
    let no = differs 256 b (λ e. h.0.token (sym e)) in
    record { entry = _; is = found_last (codes "/sequences/") b w route_table _ h (rw no refl) (rw (cuts_not (b ∷ w) h) refl) refl; value = refl }

put_events : (b : ℕ) (w : List ℕ) (d : ℕ) (ds : List ℕ) → ArePlain (b ∷ w) → ArePlain (d ∷ ds)
    → Found route.PutEvents (codes "/sequences/" ++ (b ∷ w ++ (codes "/rows/" ++ (d ∷ ds ++ codes "/events"))))
unfolding matchit_on_literals
put_events b w d ds h g =
    let no = differs 256 b (λ e. h.0.token (sym e)) in
    let none = differs 256 d (λ e. g.0.token (sym e)) in
    let rows = with_suffix (47 ∷ []) (step param_token (behind (codes "/sequences/") route_table)) in
    let behind_row = found_behind (codes "/rows/") d ds (codes "events") rows _ g (rw none refl) (rw (cuts_one d ds) refl) refl in
    record { entry = _; is = found_behind (codes "/sequences/") b w (codes "rows/" ++ (d ∷ ds ++ codes "/events")) route_table _ h (rw no refl) (rw (cuts_one b w) refl) behind_row; value = refl }

post_reprocess : (b : ℕ) (w : List ℕ) → ArePlain (b ∷ w) → Found route.PostReprocess (codes "/sequences/" ++ (b ∷ w ++ codes "/reprocess"))
unfolding matchit_on_literals
post_reprocess b w h =
    let no = differs 256 b (λ e. h.0.token (sym e)) in
    record { entry = _; is = found_behind (codes "/sequences/") b w (codes "reprocess") route_table _ h (rw no refl) (rw (cuts_one b w) refl) refl; value = refl }

post_signature : (b : ℕ) (w : List ℕ) → ArePlain (b ∷ w) → Found route.PostSignature (codes "/sequences/" ++ (b ∷ w ++ codes "/signatures"))
unfolding matchit_on_literals
post_signature b w h =
    let no = differs 256 b (λ e. h.0.token (sym e)) in
    record { entry = _; is = found_behind (codes "/sequences/") b w (codes "signatures") route_table _ h (rw no refl) (rw (cuts_one b w) refl) refl; value = refl }

get_results : (b : ℕ) (w : List ℕ) → ArePlain (b ∷ w) → Found route.GetResults (codes "/sequences/" ++ (b ∷ w ++ codes "/results"))
unfolding matchit_on_literals
get_results b w h =
    let no = differs 256 b (λ e. h.0.token (sym e)) in
    record { entry = _; is = found_behind (codes "/sequences/") b w (codes "results") route_table _ h (rw no refl) (rw (cuts_one b w) refl) refl; value = refl }

get_row : (b : ℕ) (w : List ℕ) (d : ℕ) (ds : List ℕ) → ArePlain (b ∷ w) → ArePlain (d ∷ ds)
    → Found route.GetRow (codes "/sequences/" ++ (b ∷ w ++ (codes "/results/" ++ (d ∷ ds))))
unfolding matchit_on_literals
get_row b w d ds h g =
    let no = differs 256 b (λ e. h.0.token (sym e)) in
    let none = differs 256 d (λ e. g.0.token (sym e)) in
    let rows = with_suffix (47 ∷ []) (step param_token (behind (codes "/sequences/") route_table)) in
    let last = found_last (codes "/results/") d ds rows _ g (rw none refl) refl refl in
    record { entry = _; is = found_behind (codes "/sequences/") b w (codes "results/" ++ (d ∷ ds)) route_table _ h (rw no refl) (rw (cuts_one b w) refl) last; value = refl }

get_suitability : (b : ℕ) (w : List ℕ) → ArePlain (b ∷ w) → Found route.GetSuitability (codes "/sequences/" ++ (b ∷ w ++ codes "/suitability"))
unfolding matchit_on_literals
get_suitability b w h =
    let no = differs 256 b (λ e. h.0.token (sym e)) in
    record { entry = _; is = found_behind (codes "/sequences/") b w (codes "suitability") route_table _ h (rw no refl) (rw (cuts_one b w) refl) refl; value = refl }

get_signature : (b : ℕ) (w : List ℕ) (d : ℕ) (ds : List ℕ) → ArePlain (b ∷ w) → ArePlain (d ∷ ds)
    → Found route.GetSignature (codes "/sequences/" ++ (b ∷ w ++ (codes "/signatures/" ++ (d ∷ ds))))
unfolding matchit_on_literals
get_signature b w d ds h g =
    let no = differs 256 b (λ e. h.0.token (sym e)) in
    let none = differs 256 d (λ e. g.0.token (sym e)) in
    let rows = with_suffix (47 ∷ []) (step param_token (behind (codes "/sequences/") route_table)) in
    let last = found_last (codes "/signatures/") d ds rows _ g (rw none refl) refl refl in
    record { entry = _; is = found_behind (codes "/sequences/") b w (codes "signatures/" ++ (d ∷ ds)) route_table _ h (rw no refl) (rw (cuts_one b w) refl) last; value = refl }

-- ---- names and numbers

true_of : (b : Bool) → IsTrue b → b ≡ true
true_of true h = refl
true_of false h = absurd (cc)

name_plain : (name : List ℕ) → IsName name → ArePlain name
name_plain name h = are_plain is_name_byte refl refl refl name (and_right _ (list_all is_name_byte name) (true_of (is_name name) h))

name_is : (name : List ℕ) → IsName name → name_of name ≡ Some name
name_is name h = rw (true_of (is_name name) h) refl

else_of : (b : Bool) (x : Option ℕ) (n : ℕ) → (if b then None else x) ≡ Some n → x ≡ Some n
else_of true x n is = absurd (cc)
else_of false x n is = is

within_of : (low high n : ℕ) (o : Option ℕ) → within low high o ≡ Some n → is_some o ≡ true
within_of low high n None is = absurd (cc)
within_of low high n (Some x) is = refl

then_of : (b : Bool) (x : Option ℕ) → is_some (if b then x else None) ≡ true → b ≡ true
then_of true x is = refl
then_of false x is = absurd (cc)

digits_plain : (digits : List ℕ) (n : ℕ) → path_number digits ≡ Some n → ArePlain digits
digits_plain digits n is =
    let number = within_of 1 MOST_PATH_NUMBER n (number_of digits) (else_of (get_or digits 0 48 == 48) (number_in 1 MOST_PATH_NUMBER digits) n is) in
    are_plain is_ascii_digit refl refl refl digits (and_right _ (list_all is_ascii_digit digits) (then_of (is_number digits) _ number))

-- ---- the segments

-- a target is found by its route, its name and its number
target_is : (r : Route) (p name : List ℕ) (number : ℕ) → Found r p → unmarked p ≡ true → segment p 2 ≡ name → IsName name → number_in_path p (number_at r) ≡ Some number
    → target_of p ≡ Some (record { route = r; name = name; number = number })
target_is r p name number found free second is_name_ numbered =
    rw (path_all p free, found.is, found.value, second, name_is name is_name_, numbered) refl

-- the segments of a path whose first one is this text
module _ (head rest : List ℕ) (h : ArePlain head) where
  second_is : segment (47 ∷ head ++ 47 ∷ rest) 2 ≡ before_first is_slash rest
  second_is = ap (before_first is_slash) (after_plain head rest h)

  third_is : segment (47 ∷ head ++ 47 ∷ rest) 3 ≡ before_first is_slash (after_first is_slash rest)
  third_is = ap (λ (x : List ℕ). before_first is_slash (after_first is_slash x)) (after_plain head rest h)

  fourth_is : segment (47 ∷ head ++ 47 ∷ rest) 4 ≡ before_first is_slash (after_first is_slash (after_first is_slash rest))
  fourth_is = ap (λ (x : List ℕ). before_first is_slash (after_first is_slash (after_first is_slash x))) (after_plain head rest h)

-- the name before a slash
name_cut : (name rest : List ℕ) → ArePlain name → before_first is_slash (name ++ 47 ∷ rest) ≡ name
name_cut name rest h = before_plain name (47 ∷ rest) h ∙ append-nil name

traces_plain : ArePlain (codes "traces")
traces_plain = are_plain is_name_byte refl refl refl (codes "traces") refl

methods_plain : ArePlain (codes "methods")
methods_plain = are_plain is_name_byte refl refl refl (codes "methods") refl

versions_plain : ArePlain (codes "versions")
versions_plain = are_plain is_name_byte refl refl refl (codes "versions") refl

sequences_plain : ArePlain (codes "sequences")
sequences_plain = are_plain is_name_byte refl refl refl (codes "sequences") refl

rows_plain : ArePlain (codes "rows")
rows_plain = are_plain is_name_byte refl refl refl (codes "rows") refl

results_plain : ArePlain (codes "results")
results_plain = are_plain is_name_byte refl refl refl (codes "results") refl

signatures_plain : ArePlain (codes "signatures")
signatures_plain = are_plain is_name_byte refl refl refl (codes "signatures") refl

-- each route is found by the path that is written for it
pub route_found : (r : Route) (name digits : List ℕ) (number : ℕ) → IsName name → path_number digits ≡ Some number
    → target_of (path_with r name digits) ≡ Some (record { route = r; name = name; number = number_of_path r number })
route_found r [] digits number named numbered = absurd (cc)
route_found r name [] number named numbered = absurd (cc)
route_found route.PutTrace (b ∷ w) (d ∷ ds) number named numbered =
    let h = name_plain (b ∷ w) named in
    target_is route.PutTrace (codes "/traces/" ++ (b ∷ w)) (b ∷ w) 0 (put_trace b w h)
    (unmarked_both (codes "/traces/") (b ∷ w) refl (plain_unmarked (b ∷ w) h))
    (second_is (codes "traces") (b ∷ w) traces_plain ∙ before_all (b ∷ w) h) named refl
route_found route.GetTrace (b ∷ w) (d ∷ ds) number named numbered =
    let h = name_plain (b ∷ w) named in
    let g = digits_plain (d ∷ ds) number numbered in
    let rest : List ℕ = b ∷ w ++ 47 ∷ (d ∷ ds) in
    target_is route.GetTrace (codes "/traces/" ++ rest) (b ∷ w) number (get_trace b w d ds h g)
    (unmarked_both (codes "/traces/") rest refl (unmarked_both (b ∷ w) (47 ∷ (d ∷ ds)) (plain_unmarked (b ∷ w) h) (plain_unmarked (d ∷ ds) g)))
    (second_is (codes "traces") rest traces_plain ∙ name_cut (b ∷ w) (d ∷ ds) h) named
    (ap path_number (third_is (codes "traces") rest traces_plain ∙ ap (before_first is_slash) (after_plain (b ∷ w) (d ∷ ds) h) ∙ before_all (d ∷ ds) g) ∙ numbered)
route_found route.PutDraft (b ∷ w) (d ∷ ds) number named numbered =
    let h = name_plain (b ∷ w) named in
    let rest : List ℕ = b ∷ w ++ codes "/draft" in
    target_is route.PutDraft (codes "/methods/" ++ rest) (b ∷ w) 0 (put_draft b w h)
    (unmarked_both (codes "/methods/") rest refl (unmarked_both (b ∷ w) (codes "/draft") (plain_unmarked (b ∷ w) h) refl))
    (second_is (codes "methods") rest methods_plain ∙ name_cut (b ∷ w) (codes "draft") h) named refl
route_found route.PostVersion (b ∷ w) (d ∷ ds) number named numbered =
    let h = name_plain (b ∷ w) named in
    let rest : List ℕ = b ∷ w ++ codes "/versions" in
    target_is route.PostVersion (codes "/methods/" ++ rest) (b ∷ w) 0 (post_version b w h)
    (unmarked_both (codes "/methods/") rest refl (unmarked_both (b ∷ w) (codes "/versions") (plain_unmarked (b ∷ w) h) refl))
    (second_is (codes "methods") rest methods_plain ∙ name_cut (b ∷ w) (codes "versions") h) named refl
route_found route.GetMethod (b ∷ w) (d ∷ ds) number named numbered =
    let h = name_plain (b ∷ w) named in
    let g = digits_plain (d ∷ ds) number numbered in
    let rest : List ℕ = b ∷ w ++ (codes "/versions/" ++ (d ∷ ds)) in
    target_is route.GetMethod (codes "/methods/" ++ rest) (b ∷ w) number (get_method b w d ds h g)
    (unmarked_both (codes "/methods/") rest refl (unmarked_both (b ∷ w) (codes "/versions/" ++ (d ∷ ds)) (plain_unmarked (b ∷ w) h) (plain_unmarked (d ∷ ds) g)))
    (second_is (codes "methods") rest methods_plain ∙ name_cut (b ∷ w) (codes "versions/" ++ (d ∷ ds)) h) named
    (ap path_number (
    fourth_is (codes "methods") rest methods_plain
    ∙ ap (λ (x : List ℕ). before_first is_slash (after_first is_slash x)) (after_plain (b ∷ w) (codes "versions/" ++ (d ∷ ds)) h)
    ∙ ap (before_first is_slash) (after_plain (codes "versions") (d ∷ ds) versions_plain)
    ∙ before_all (d ∷ ds) g
    ) ∙ numbered)
route_found route.PutSequence (b ∷ w) (d ∷ ds) number named numbered =
    let h = name_plain (b ∷ w) named in
    target_is route.PutSequence (codes "/sequences/" ++ (b ∷ w)) (b ∷ w) 0 (put_sequence b w h)
    (unmarked_both (codes "/sequences/") (b ∷ w) refl (plain_unmarked (b ∷ w) h))
    (second_is (codes "sequences") (b ∷ w) sequences_plain ∙ before_all (b ∷ w) h) named refl
route_found route.PutEvents (b ∷ w) (d ∷ ds) number named numbered =
    let h = name_plain (b ∷ w) named in
    let g = digits_plain (d ∷ ds) number numbered in
    let last : List ℕ = d ∷ ds ++ codes "/events" in
    let rest : List ℕ = b ∷ w ++ (codes "/rows/" ++ last) in
    target_is route.PutEvents (codes "/sequences/" ++ rest) (b ∷ w) number (put_events b w d ds h g)
    (unmarked_both (codes "/sequences/") rest refl (unmarked_both (b ∷ w) (codes "/rows/" ++ last) (plain_unmarked (b ∷ w) h) (unmarked_both (d ∷ ds) (codes "/events") (plain_unmarked (d ∷ ds) g) refl)))
    (second_is (codes "sequences") rest sequences_plain ∙ name_cut (b ∷ w) (codes "rows/" ++ last) h) named
    (ap path_number (
    fourth_is (codes "sequences") rest sequences_plain
    ∙ ap (λ (x : List ℕ). before_first is_slash (after_first is_slash x)) (after_plain (b ∷ w) (codes "rows/" ++ last) h)
    ∙ ap (before_first is_slash) (after_plain (codes "rows") last rows_plain)
    ∙ name_cut (d ∷ ds) (codes "events") g
    ) ∙ numbered)
route_found route.PostReprocess (b ∷ w) (d ∷ ds) number named numbered =
    let h = name_plain (b ∷ w) named in
    let rest : List ℕ = b ∷ w ++ codes "/reprocess" in
    target_is route.PostReprocess (codes "/sequences/" ++ rest) (b ∷ w) 0 (post_reprocess b w h)
    (unmarked_both (codes "/sequences/") rest refl (unmarked_both (b ∷ w) (codes "/reprocess") (plain_unmarked (b ∷ w) h) refl))
    (second_is (codes "sequences") rest sequences_plain ∙ name_cut (b ∷ w) (codes "reprocess") h) named refl
route_found route.PostSignature (b ∷ w) (d ∷ ds) number named numbered =
    let h = name_plain (b ∷ w) named in
    let rest : List ℕ = b ∷ w ++ codes "/signatures" in
    target_is route.PostSignature (codes "/sequences/" ++ rest) (b ∷ w) 0 (post_signature b w h)
    (unmarked_both (codes "/sequences/") rest refl (unmarked_both (b ∷ w) (codes "/signatures") (plain_unmarked (b ∷ w) h) refl))
    (second_is (codes "sequences") rest sequences_plain ∙ name_cut (b ∷ w) (codes "signatures") h) named refl
route_found route.GetResults (b ∷ w) (d ∷ ds) number named numbered =
    let h = name_plain (b ∷ w) named in
    let rest : List ℕ = b ∷ w ++ codes "/results" in
    target_is route.GetResults (codes "/sequences/" ++ rest) (b ∷ w) 0 (get_results b w h)
    (unmarked_both (codes "/sequences/") rest refl (unmarked_both (b ∷ w) (codes "/results") (plain_unmarked (b ∷ w) h) refl))
    (second_is (codes "sequences") rest sequences_plain ∙ name_cut (b ∷ w) (codes "results") h) named refl
route_found route.GetRow (b ∷ w) (d ∷ ds) number named numbered =
    let h = name_plain (b ∷ w) named in
    let g = digits_plain (d ∷ ds) number numbered in
    let rest : List ℕ = b ∷ w ++ (codes "/results/" ++ (d ∷ ds)) in
    target_is route.GetRow (codes "/sequences/" ++ rest) (b ∷ w) number (get_row b w d ds h g)
    (unmarked_both (codes "/sequences/") rest refl (unmarked_both (b ∷ w) (codes "/results/" ++ (d ∷ ds)) (plain_unmarked (b ∷ w) h) (plain_unmarked (d ∷ ds) g)))
    (second_is (codes "sequences") rest sequences_plain ∙ name_cut (b ∷ w) (codes "results/" ++ (d ∷ ds)) h) named
    (ap path_number (
    fourth_is (codes "sequences") rest sequences_plain
    ∙ ap (λ (x : List ℕ). before_first is_slash (after_first is_slash x)) (after_plain (b ∷ w) (codes "results/" ++ (d ∷ ds)) h)
    ∙ ap (before_first is_slash) (after_plain (codes "results") (d ∷ ds) results_plain)
    ∙ before_all (d ∷ ds) g
    ) ∙ numbered)
route_found route.GetSuitability (b ∷ w) (d ∷ ds) number named numbered =
    let h = name_plain (b ∷ w) named in
    let rest : List ℕ = b ∷ w ++ codes "/suitability" in
    target_is route.GetSuitability (codes "/sequences/" ++ rest) (b ∷ w) 0 (get_suitability b w h)
    (unmarked_both (codes "/sequences/") rest refl (unmarked_both (b ∷ w) (codes "/suitability") (plain_unmarked (b ∷ w) h) refl))
    (second_is (codes "sequences") rest sequences_plain ∙ name_cut (b ∷ w) (codes "suitability") h) named refl
route_found route.GetSignature (b ∷ w) (d ∷ ds) number named numbered =
    let h = name_plain (b ∷ w) named in
    let g = digits_plain (d ∷ ds) number numbered in
    let rest : List ℕ = b ∷ w ++ (codes "/signatures/" ++ (d ∷ ds)) in
    target_is route.GetSignature (codes "/sequences/" ++ rest) (b ∷ w) number (get_signature b w d ds h g)
    (unmarked_both (codes "/sequences/") rest refl (unmarked_both (b ∷ w) (codes "/signatures/" ++ (d ∷ ds)) (plain_unmarked (b ∷ w) h) (plain_unmarked (d ∷ ds) g)))
    (second_is (codes "sequences") rest sequences_plain ∙ name_cut (b ∷ w) (codes "signatures/" ++ (d ∷ ds)) h) named
    (ap path_number (
    fourth_is (codes "sequences") rest sequences_plain
    ∙ ap (λ (x : List ℕ). before_first is_slash (after_first is_slash x)) (after_plain (b ∷ w) (codes "signatures/" ++ (d ∷ ds)) h)
    ∙ ap (before_first is_slash) (after_plain (codes "signatures") (d ∷ ds) signatures_plain)
    ∙ before_all (d ∷ ds) g
    ) ∙ numbered)
