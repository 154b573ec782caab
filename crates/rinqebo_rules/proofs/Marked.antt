-- Rules that are marked by whether they hold for some tests.
use Rattle.std.proofs.Common.{◌≡◌, ◌∙◌, ◌<◌, ◌≤◌, ◌++◌, ◌∷◌, [], ◌||◌, ◌+◌, ℕ, List, Bool, get_or, not, replicate, take, true, false, Some, ap, length, map, option_map, slice_get, slice_set, unwrap_or, refl, subst, sym}
use Rattle.std.proofs.lemmas.List.{map-append, take-map, take_all, take_more}
use Rattle.std.proofs.lemmas.List.Folds.{list_any-append}
use Rattle.std.proofs.lemmas.Option.{get_or_from_slice_get, slice_get-get_or, slice_get-map, slice_get_within}
use Rattle.nextest_settings.specs.Deciding.{QueryContext, rule_holds}
use Rattle.nextest_settings.specs.Platforms.{EvaluatedRule}
use Rattle.rinqebo_origins.proofs.RowsMore.{filter_more, filter_same}
use Rattle.rinqebo_rules.proofs.SetMarks.{made_so_far, next_old, next_set}
use Rattle.rinqebo_rules.specs.Unused.{is_used, unused_among}

-- what is made of one element more
pub map_more : {A B : Type 0} (f : A → B) (xs : List A) (i : ℕ) (x d : A) → i < length xs → x ≡ get_or xs i d
    → map f (take i xs) ++ f x ∷ [] ≡ map f (take (i + 1) xs)
map_more f xs i x d below same =
    sym (map-append f (take i xs) (x ∷ []))
    ∙ ap (map f) (ap (λ z. take i xs ++ z ∷ []) same ∙ sym (take_more xs i d below))

-- what is shown of the elements so far, and of one more that is put behind
pub shown_more : {A P V : Type 0} (view : P → V) (f : A → V) (xs : List A) (i : ℕ) (x d : A) (old new : List P) (p : P)
    → i < length xs → x ≡ get_or xs i d → map view old ≡ map f (take i xs) → new ≡ old ++ p ∷ [] → view p ≡ f x
    → map view new ≡ map f (take (i + 1) xs)
shown_more view f xs i x d old new p below same so_far put is =
    ap (map view) put ∙ map-append view old (p ∷ []) ∙ ap (λ vs. vs ++ view p ∷ []) so_far
    ∙ ap (λ v. map f (take i xs) ++ v ∷ []) is ∙ map_more f xs i x d below same

-- what is made in three steps
pub twice : {A B C D : Type 0} (h : C → D) (g : B → C) (f : A → B) (xs : List A)
    → map (λ x. h (g (f x))) xs ≡ map h (map g (map f xs))
twice h g f [] = refl
twice h g f (x ∷ xs) = ap (λ rest. h (g (f x)) ∷ rest) (twice h g f xs)

-- what is made of the element at a place
pub mapped_at : {A B : Type 0} (f : A → B) (xs : List A) (i : ℕ) (x d : A) → i < length xs → x ≡ get_or xs i d
    → slice_get (map f xs) i ≡ Some (f x)
mapped_at f xs i x d below is =
    slice_get-map f xs i ∙ ap (option_map f) (slice_get-get_or xs i d below ∙ ap Some (sym is))

-- what is made of all elements
pub all_mapped : {A B : Type 0} (f : A → B) (xs : List A) (i : ℕ) → length xs ≤ i → take i (map f xs) ≡ map f xs
all_mapped f xs i past = take-map f i xs ∙ ap (map f) (take_all i xs past)

-- before any test no rule is used
pub none_used : {M W : Type 0} (rules : List (EvaluatedRule M W)) → replicate (length rules) false ≡ map (is_used []) rules
none_used [] = refl
none_used (rule ∷ rules) = ap (λ rest. false ∷ rest) (none_used rules)

or_false : (b : Bool) → (b || false) ≡ b
or_false true = refl
or_false false = refl

module _ {M W : Type 0} (tests : List (QueryContext M)) (rules : List (EvaluatedRule M W)) (n : ℕ)
    (rule : EvaluatedRule M W) where
  -- the mark of a rule
  pub mark_of : (marks : List Bool) → marks ≡ map (is_used tests) rules → slice_get rules n ≡ Some rule
      → unwrap_or (slice_get marks n) false ≡ is_used tests rule
  mark_of marks are stands =
      ap (λ ms. unwrap_or (slice_get ms n) false) are
      ∙ ap (λ found. unwrap_or found false)
      (slice_get-map (is_used tests) rules n ∙ ap (option_map (is_used tests)) stands)

  -- a rule holds for some of the tests with one more where it does for some of them, or for this one
  used_more : (query : QueryContext M)
      → is_used (tests ++ query ∷ []) rule ≡ (is_used tests rule || rule_holds query rule)
  used_more query =
      list_any-append (λ test. rule_holds test rule) tests (query ∷ [])
      ∙ ap (λ b. is_used tests rule || b) (or_false (rule_holds query rule))

  -- the marks of the rules, of which those so far are set, and one more
  pub marks_more : (query : QueryContext M) → slice_get rules n ≡ Some rule → (now new : List Bool) (mark : Bool)
      → now ≡ made_so_far (is_used (tests ++ query ∷ [])) (is_used tests) rules n
      → mark ≡ (unwrap_or (slice_get now n) false || rule_holds query rule) → new ≡ slice_set now n mark
      → new ≡ made_so_far (is_used (tests ++ query ∷ [])) (is_used tests) rules (n + 1)
  marks_more query stands now new mark so_far marked set =
      let after = is_used (tests ++ query ∷ []) in
      let before = is_used tests in
      let old : unwrap_or (slice_get now n) false ≡ is_used tests rule =
      ap (λ ms. unwrap_or (slice_get ms n) false) so_far
      ∙ ap (λ o. unwrap_or o false) (next_old after before rules n rule stands) in
      let held : mark ≡ after rule =
      marked ∙ ap (λ b. b || rule_holds query rule) old ∙ sym (used_more query) in
      set ∙ ap (λ ms. slice_set ms n mark) so_far ∙ ap (slice_set (made_so_far after before rules n) n) held
      ∙ next_set after before rules n rule stands

  -- the ids of the rules so far that hold for none of the tests, and of one more
  pub unused_more : {I : Type 0} (id : W → I) → slice_get rules n ≡ Some rule → (marks : List Bool)
      → marks ≡ map (is_used tests) rules → (old new : List I)
      → old ≡ map (λ r. id r.writes) (unused_among tests (take n rules))
      → unwrap_or (slice_get marks n) false ≡ false → new ≡ old ++ id rule.writes ∷ []
      → new ≡ map (λ r. id r.writes) (unused_among tests (take (n + 1) rules))
  unused_more id stands marks are old new so_far fails more =
      let front = unused_among tests (take n rules) in
      let kept = filter_more (λ r. not (is_used tests r)) rules n rule rule (slice_get_within rules n rule stands)
      (sym (get_or_from_slice_get rules n rule rule stands)) front (front ++ rule ∷ []) refl
      (ap not (sym (mark_of marks are stands) ∙ fails)) refl in
      more ∙ ap (λ xs. xs ++ id rule.writes ∷ []) so_far
      ∙ sym (map-append (λ r. id r.writes) front (rule ∷ [])) ∙ ap (map (λ r. id r.writes)) kept

  -- one rule more that holds for some of the tests
  pub unused_same : {I : Type 0} (id : W → I) → slice_get rules n ≡ Some rule → (marks : List Bool)
      → marks ≡ map (is_used tests) rules → (now : List I)
      → now ≡ map (λ r. id r.writes) (unused_among tests (take n rules))
      → unwrap_or (slice_get marks n) false ≡ true
      → now ≡ map (λ r. id r.writes) (unused_among tests (take (n + 1) rules))
  unused_same id stands marks are now so_far holds =
      let same = filter_same (λ r. not (is_used tests r)) rules n rule rule (slice_get_within rules n rule stands)
      (sym (get_or_from_slice_get rules n rule rule stands)) (unused_among tests (take n rules)) refl
      (ap not (sym (mark_of marks are stands) ∙ holds)) in
      so_far ∙ ap (map (λ r. id r.writes)) same

-- what holds of the marks by the same rules and tests
pub marks_alike : {M W : Type 0} (P : QueryContext M → List (EvaluatedRule M W) → Type 0) (one query : QueryContext M)
    (mine rules : List (EvaluatedRule M W)) → one ≡ query → mine ≡ rules → P one mine → P query rules
marks_alike P one query mine rules same_query same_rules holds =
    subst (λ q. P q rules) same_query (subst (P one) same_rules holds)
