-- What the tables are once a draft is put or frozen: its texts, the counts, and that all rules are kept.
use Rattle.std.proofs.Common.{◌≡◌, ◌∙◌, ℕ, ◌+◌, ◌≤◌, ◌==◌, Bool, true, false, inl, inr, List, [], ◌∷◌, ◌++◌, length, Option, Some, None, Ok, Err, option_map, unwrap_or, refl, sym, ap, ap₂, subst, arith}
use Rattle.std.specs.Prelude.{All, is_none, ◌⊎◌}
use Rattle.std.specs.Option.{option_map_or}
use Rattle.std.specs.Str.{bytes_eq}
use Rattle.std.proofs.lemmas.Bool.{cases_Bool, cases_eq}
use Rattle.std.proofs.lemmas.Bool.Decides.{nat_tests}
use Rattle.std.proofs.lemmas.List.{length-append}
use Rattle.std.proofs.lemmas.List.Elements.{All-nil, All-push}
use Rattle.std.proofs.lemmas.Slice.Eq.{bytes_eq-Decides}
use Rattle.cds_book.specs.Kept.{AreChanges, IsMethod, IsMethodEntry, IsTables, method_versions_in_all, changes_in_all}
use Rattle.cds_book.specs.Plan.{planned, carried, with_method, freeze_planned, counts_of, limit_passed, unless_full, is_latest, Accepts}
use Rattle.cds_book.specs.Tables.{NamedMethod, TablesState, method_named, draft_of, texts_of}
use Rattle.cds_sign.specs.declared.command.Command.TheVariants as command
use Rattle.cds_sign.specs.declared.command.Change.TheVariants as change
use Rattle.cds_book.specs.declared.command.Plan.TheVariants as plan
use Rattle.cds_book.specs.declared.error.PlanError.TheVariants.{NoMethod, Number}
use Rattle.cds_book.specs.declared.limits.TheConstants.{MOST_METHODS, MOST_METHOD_VERSIONS}
use Rattle.cds_sign.specs.declared.limits.TheConstants.{MOST_VERSIONS}
use Rattle.cds_base.proofs.NamedLaws.{named-placed, named-All, All-placed, AreRising-placed, sum_by-placed, length-placed}
use Rattle.cds_book.proofs.GrownLaws.{Grows, AreBound-grown, AreListed-grown}
use Rattle.cds_book.proofs.RaisedLaws.{no_more}
use Rattle.cds_book.proofs.LookLaws.{draft_of-found, texts_of-found}
use Rattle.cds_book.proofs.VersionLaws.{AreChanges-push, AreChanges-none, AreWithin, AreWithin-none, unless_full-ok}
use mir.Val.{bool_byte}

-- the name of an entry
abbrev pub method_name : NamedMethod → List ℕ
method_name e = e.name

-- the tables once a draft is put
pub carried-draft : (t : TablesState) (name text : List ℕ) → carried t (change.Draft name text) ≡ with_method t name text (texts_of t name)
carried-draft t name text = refl

-- the tables once a draft is frozen
pub carried-freeze : (t : TablesState) (name : List ℕ) (version : ℕ) (draft : List ℕ) → draft_of t name ≡ Some draft → carried t (change.Freeze name version) ≡ with_method t name draft (texts_of t name ++ draft ∷ [])
carried-freeze t name version draft is = rw is refl

module _ (t : TablesState) (name draft : List ℕ) (versions : List (List ℕ)) where
  pub method_named-with : method_named (with_method t name draft versions) name ≡ Some (record { name = name; draft = draft; versions = versions })
  method_named-with = named-placed method_name t.methods (record { name = name; draft = draft; versions = versions })

  -- a method that was put has the draft and the versions that were put
  pub draft_of-with : draft_of (with_method t name draft versions) name ≡ Some draft
  draft_of-with = draft_of-found (with_method t name draft versions) name _ method_named-with

  pub texts_of-with : texts_of (with_method t name draft versions) name ≡ versions
  texts_of-with = texts_of-found (with_method t name draft versions) name _ method_named-with

-- the versions of what stands under a name
length_texts : (t : TablesState) (name : List ℕ) → option_map_or (λ (e : NamedMethod). length e.versions) (method_named t name) 0 ≡ length (texts_of t name)
unfolding texts_of
length_texts t name = by_found (method_named t name)
  where
    by_found : (found : Option NamedMethod) → option_map_or (λ (e : NamedMethod). length e.versions) found 0 ≡ length (unwrap_or (option_map (λ entry. entry.versions) found) [])
    by_found None = refl
    by_found (Some e) = refl

-- what is kept of the texts of a name
module _ (t : TablesState) (kept : IsTables t) (name : List ℕ) where
  kept_found : (e : NamedMethod) → method_named t name ≡ Some e → IsMethodEntry e
  kept_found e is = named-All method_name IsMethodEntry t.methods name e kept.methods.each is

  pub All-texts : All IsMethod (texts_of t name)
  unfolding texts_of
  All-texts = by_found (method_named t name) refl
    where
      by_found : (found : Option NamedMethod) → method_named t name ≡ found → All IsMethod (unwrap_or (option_map (λ (e : NamedMethod). e.versions) found) [])
      by_found None is = All-nil IsMethod
      by_found (Some e) is = (kept_found e is).versions

  pub AreChanges-texts : AreChanges (texts_of t name)
  unfolding texts_of
  AreChanges-texts = by_found (method_named t name) refl
    where
      by_found : (found : Option NamedMethod) → method_named t name ≡ found → AreChanges (unwrap_or (option_map (λ (e : NamedMethod). e.versions) found) [])
      by_found None is = AreChanges-none
      by_found (Some e) is = (kept_found e is).changes

  pub few_texts : length (texts_of t name) ≤ MOST_VERSIONS
  unfolding texts_of
  few_texts = by_found (method_named t name) refl
    where
      by_found : (found : Option NamedMethod) → method_named t name ≡ found → length (unwrap_or (option_map (λ (e : NamedMethod). e.versions) found) []) ≤ MOST_VERSIONS
      by_found None is = omega arith
      by_found (Some e) is = (kept_found e is).few

  pub IsMethod-draft : (draft : List ℕ) → draft_of t name ≡ Some draft → IsMethod draft
  unfolding draft_of
  IsMethod-draft draft is = by_found (method_named t name) refl is
    where
      by_found : (found : Option NamedMethod) → method_named t name ≡ found → option_map (λ (e : NamedMethod). e.draft) found ≡ Some draft → IsMethod draft
      by_found None found same = cc
      by_found (Some e) found same = let one : e.draft ≡ draft = cc in subst IsMethod one (kept_found e found).draft

-- how many methods there are once one is put
module _ (t : TablesState) (kept : IsTables t) (name draft : List ℕ) (versions : List (List ℕ)) where
  -- one more where it had no draft
  pub methods-with : length (with_method t name draft versions).methods ≡ length t.methods + bool_byte (is_none (draft_of t name))
  unfolding draft_of
  methods-with =
      let entry : NamedMethod = record { name = name; draft = draft; versions = versions } in
      let change = length-placed method_name t.methods entry kept.methods.names in
      let there : option_map_or (λ (_ : NamedMethod). 1) (method_named t name) 0 + bool_byte (is_none (draft_of t name)) ≡ 1 = by_found (method_named t name) in
      omega (arith, change, there)
    where
      by_found : (found : Option NamedMethod) → option_map_or (λ (_ : NamedMethod). 1) found 0 + bool_byte (is_none (option_map (λ (e : NamedMethod). e.draft) found)) ≡ 1
      by_found None = refl
      by_found (Some e) = refl

  -- as many versions more as the method has more
  pub method_versions-with : (more : ℕ) → length versions ≡ length (texts_of t name) + more → method_versions_in_all (with_method t name draft versions).methods ≡ method_versions_in_all t.methods + more
  method_versions-with more grown =
      let entry : NamedMethod = record { name = name; draft = draft; versions = versions } in
      let change = sum_by-placed method_name (λ (e : NamedMethod). length e.versions) t.methods entry kept.methods.names in
      omega (arith, change, length_texts t name, grown)

-- what a draft is answered, by the draft that is there and by the counts that it raises
module _ (t : TablesState) (name text asked : List ℕ) (asks : asked ≡ text) (draft : Option (List ℕ)) (is : draft ≡ draft_of t name) where
  is_draft_of : (answer : Bool) → answer ≡ option_map_or (λ d. bytes_eq d asked) draft false → option_map_or (λ d. bytes_eq d text) (draft_of t name) false ≡ answer
  is_draft_of answer here = sym (here ∙ ap₂ (λ o x. option_map_or (λ d. bytes_eq d x) o false) is asks)

  pub planned-same_draft : true ≡ option_map_or (λ d. bytes_eq d asked) draft false → planned t (command.Draft name text) ≡ Ok plan.Unchanged
  unfolding planned
  planned-same_draft same = rw (is_draft_of true same) refl

  pub planned-other_draft : (counts : List (ℕ × ℕ)) (limit : Option ℕ) → false ≡ option_map_or (λ d. bytes_eq d asked) draft false → counts ≡ counts_of (change.Draft name text) (carried t (change.Draft name text)) → limit ≡ limit_passed counts → planned t (command.Draft name text) ≡ unless_full limit (change.Draft name text)
  unfolding planned
  planned-other_draft counts limit other raised least = rw (is_draft_of false other, least, raised) refl

-- the count that a draft raises
pub counts-draft : (t : TablesState) → IsTables t → (name text : List ℕ) → counts_of (change.Draft name text) (carried t (change.Draft name text)) ≡ (length t.methods + bool_byte (is_none (draft_of t name)), MOST_METHODS) ∷ []
counts-draft t kept name text = rw (methods-with t kept name text (texts_of t name)) refl

-- all rules are kept when an accepted draft is put
pub IsTables-draft : (t : TablesState) (name text : List ℕ) → IsTables t → Accepts t (change.Draft name text) → Grows t (with_method t name text (texts_of t name)) → IsTables (carried t (change.Draft name text))
IsTables-draft t name text kept accepts grows =
    let versions = texts_of t name in
    let entry : NamedMethod = record { name = name; draft = text; versions = versions } in
    let after = with_method t name text versions in
    let is : carried t (change.Draft name text) ≡ after = carried-draft t name text in
    let counts = counts_of (change.Draft name text) (carried t (change.Draft name text)) in
    let few : length after.methods ≤ MOST_METHODS = elim (cases_Bool (option_map_or (λ d. bytes_eq d text) (draft_of t name) false)) [
      | inl same ↦
          let unchanged : planned t (command.Draft name text) ≡ Ok plan.Unchanged = planned-same_draft t name text text refl _ refl (sym same) in
          let contrary : Ok plan.Unchanged ≡ Ok (plan.Change (change.Draft name text)) = sym unchanged ∙ accepts.accepted in
          cc
      | inr other ↦
          let judged = planned-other_draft t name text text refl (draft_of t name) refl counts _ (sym other) refl refl in
          let within : AreWithin counts = AreWithin-none counts (unless_full-ok _ (change.Draft name text) (sym judged ∙ accepts.accepted)) in
          subst (λ (s : TablesState). length s.methods ≤ MOST_METHODS) is within.0
    ] in
    let kept_entry : IsMethodEntry entry = record {
      name = accepts.command.0.0;
      draft = accepts.command.1;
      versions = All-texts t kept name;
      few = few_texts t kept name;
      changes = AreChanges-texts t kept name;
    } in
    let same = method_versions-with t kept name text versions 0 (omega arith) in
    let all : IsTables after = record {
      traces = kept.traces;
      methods = record {
        names = AreRising-placed method_name t.methods entry kept.methods.names;
        each = All-placed method_name IsMethodEntry t.methods entry kept.methods.each kept_entry;
        few = few;
        few_versions = let most = kept.methods.few_versions in omega (arith, same, most);
      };
      sequences = kept.sequences;
      bases = no_more (changes_in_all t) (changes_in_all after) t.sequences (omega (arith, same)) kept.bases;
      bound = AreBound-grown t after grows t.sequences kept.bound;
      listed = AreListed-grown t after grows t.sequences kept.listed;
    } in
    subst IsTables (sym is) all

-- what a freeze is answered, by the draft and the texts that are there and by the counts that it raises
module _ (t : TablesState) (name : List ℕ) (version : ℕ) where
  pub planned-no_draft : None ≡ draft_of t name → planned t (command.Freeze name version) ≡ Err (NoMethod name)
  unfolding planned
  planned-no_draft is = rw (← is) refl

  module _ (draft : List ℕ) (is : Some draft ≡ draft_of t name) (texts : List (List ℕ)) (are : texts ≡ texts_of t name) where
    freeze_answer : planned t (command.Freeze name version) ≡ freeze_planned t name version (Some draft)
    unfolding planned
    freeze_answer = ap (freeze_planned t name version) (sym is)

    is_latest-texts : (answer : Bool) → answer ≡ is_latest bytes_eq texts draft → is_latest bytes_eq (texts_of t name) draft ≡ answer
    is_latest-texts answer here = sym (here ∙ ap (λ ts. is_latest bytes_eq ts draft) are)

    -- a draft that is the latest version changes nothing
    pub planned-latest_text : true ≡ is_latest bytes_eq texts draft → planned t (command.Freeze name version) ≡ Ok plan.Unchanged
    planned-latest_text same = freeze_answer ∙ rw (is_latest-texts true same) refl

    -- another draft needs the next number
    pub planned-other_number : (next : ℕ) → false ≡ is_latest bytes_eq texts draft → next ≡ length texts + 1 → (version ≡ next → ⊥) → planned t (command.Freeze name version) ≡ Err (Number next)
    planned-other_number next other is_next differs =
        let here : next ≡ length (texts_of t name) + 1 = is_next ∙ ap (λ (ts : List (List ℕ)). length ts + 1) are in
        let number : (version == length (texts_of t name) + 1) ≡ false = grind (arith, nat_tests) in
        freeze_answer ∙ rw (is_latest-texts false other, number) (ap (λ n. Err (Number n)) (sym here))

    -- and is then judged by the limits
    pub planned-next_number : (counts : List (ℕ × ℕ)) (limit : Option ℕ) → false ≡ is_latest bytes_eq texts draft → version ≡ length texts + 1 → counts ≡ counts_of (change.Freeze name version) (carried t (change.Freeze name version)) → limit ≡ limit_passed counts → planned t (command.Freeze name version) ≡ unless_full limit (change.Freeze name version)
    planned-next_number counts limit other next raised least =
        let here : version ≡ length (texts_of t name) + 1 = next ∙ ap (λ (ts : List (List ℕ)). length ts + 1) are in
        let number : (version == length (texts_of t name) + 1) ≡ true = grind (arith, nat_tests) in
        freeze_answer ∙ rw (is_latest-texts false other, number, least, raised) refl

-- the counts that a freeze raises
pub counts-freeze : (t : TablesState) → IsTables t → (name : List ℕ) (version : ℕ) (draft : List ℕ) → draft_of t name ≡ Some draft → counts_of (change.Freeze name version) (carried t (change.Freeze name version)) ≡ (length (texts_of t name) + 1, MOST_VERSIONS) ∷ (method_versions_in_all t.methods + 1, MOST_METHOD_VERSIONS) ∷ []
counts-freeze t kept name version draft is =
    let texts = texts_of t name ++ draft ∷ [] in
    let grown : length texts ≡ length (texts_of t name) + 1 = length-append (texts_of t name) (draft ∷ []) in
    let same : length (texts_of (with_method t name draft texts) name) ≡ length (texts_of t name) + 1 = ap length (texts_of-with t name draft texts) ∙ grown in
    rw (carried-freeze t name version draft is, same, method_versions-with t kept name draft texts 1 grown) refl

-- what an accepted freeze is: of a draft that isn't the latest version, under the next number, and its counts are
-- within the limits
pub record IsNewText (t : TablesState) (name : List ℕ) (version : ℕ) : Type 0 where
  pub draft : List ℕ
  pub is : draft_of t name ≡ Some draft
  pub other : is_latest bytes_eq (texts_of t name) draft ≡ false
  pub next : version ≡ length (texts_of t name) + 1
  pub within : AreWithin (counts_of (change.Freeze name version) (carried t (change.Freeze name version)))

pub IsNewText-accepted : (t : TablesState) (name : List ℕ) (version : ℕ)
    → planned t (command.Freeze name version) ≡ Ok (plan.Change (change.Freeze name version)) → IsNewText t name version
IsNewText-accepted t name version accepts = by_draft (draft_of t name) refl
  where
    judged : (draft : List ℕ) → draft_of t name ≡ Some draft → is_latest bytes_eq (texts_of t name) draft ≡ false → (version ≡ length (texts_of t name) + 1) ⊎ (version ≡ length (texts_of t name) + 1 → ⊥) → IsNewText t name version
    judged draft is other (inr differs) =
        let refused = planned-other_number t name version draft (sym is) (texts_of t name) refl _ (sym other) refl differs in
        let contrary : Err (Number (length (texts_of t name) + 1)) ≡ Ok (plan.Change (change.Freeze name version)) = sym refused ∙ accepts in
        cc
    judged draft is other (inl next) =
        let counts = counts_of (change.Freeze name version) (carried t (change.Freeze name version)) in
        let answer = planned-next_number t name version draft (sym is) (texts_of t name) refl counts _ (sym other) next refl refl in
        record {
          draft = draft;
          is = is;
          other = other;
          next = next;
          within = AreWithin-none counts (unless_full-ok _ (change.Freeze name version) (sym answer ∙ accepts));
        }

    by_draft : (found : Option (List ℕ)) → draft_of t name ≡ found → IsNewText t name version
    by_draft None is =
        let refused = planned-no_draft t name version (sym is) in
        let contrary : Err (NoMethod name) ≡ Ok (plan.Change (change.Freeze name version)) = sym refused ∙ accepts in
        cc
    by_draft (Some draft) is = elim (cases_Bool (is_latest bytes_eq (texts_of t name) draft)) [
      | inl same ↦
          let unchanged = planned-latest_text t name version draft (sym is) (texts_of t name) refl (sym same) in
          let contrary : Ok plan.Unchanged ≡ Ok (plan.Change (change.Freeze name version)) = sym unchanged ∙ accepts in
          cc
      | inr other ↦ judged draft is other (cases_eq version (length (texts_of t name) + 1))
    ]

-- all rules are kept when an accepted freeze is carried out
pub IsTables-freeze : (t : TablesState) (name : List ℕ) (version : ℕ) → IsTables t → Accepts t (change.Freeze name version) → ((draft : List ℕ) → Grows t (with_method t name draft (texts_of t name ++ draft ∷ []))) → IsTables (carried t (change.Freeze name version))
IsTables-freeze t name version kept accepts frozen =
    let new = IsNewText-accepted t name version accepts.accepted in
    let texts = texts_of t name ++ new.draft ∷ [] in
    let entry : NamedMethod = record { name = name; draft = new.draft; versions = texts } in
    let after = with_method t name new.draft texts in
    let is : carried t (change.Freeze name version) ≡ after = carried-freeze t name version new.draft new.is in
    let within : AreWithin (counts_of (change.Freeze name version) after) = subst (λ s. AreWithin (counts_of (change.Freeze name version) s)) is new.within in
    let method : IsMethod new.draft = IsMethod-draft t kept name new.draft new.is in
    let kept_entry : IsMethodEntry entry = record {
      name = accepts.command.0;
      draft = method;
      versions = All-push IsMethod (texts_of t name) new.draft (All-texts t kept name) method;
      few = subst (λ (ts : List (List ℕ)). length ts ≤ MOST_VERSIONS) (texts_of-with t name new.draft texts) within.0;
      changes = AreChanges-push bytes_eq bytes_eq-Decides (texts_of t name) new.draft (AreChanges-texts t kept name) new.other;
    } in
    let there : bool_byte (is_none (draft_of t name)) ≡ 0 = ap (λ o. bool_byte (is_none o)) new.is in
    let many = methods-with t kept name new.draft texts in
    let all : IsTables after = record {
      traces = kept.traces;
      methods = record {
        names = AreRising-placed method_name t.methods entry kept.methods.names;
        each = All-placed method_name IsMethodEntry t.methods entry kept.methods.each kept_entry;
        few = let most = kept.methods.few in omega (arith, many, there, most);
        few_versions = within.1.0;
      };
      sequences = kept.sequences;
      bases = let more = method_versions-with t kept name new.draft texts 1 (length-append (texts_of t name) (new.draft ∷ [])) in no_more (changes_in_all t) (changes_in_all after) t.sequences (omega (arith, more)) kept.bases;
      bound = AreBound-grown t after (frozen new.draft) t.sequences kept.bound;
      listed = AreListed-grown t after (frozen new.draft) t.sequences kept.listed;
    } in
    subst IsTables (sym is) all
