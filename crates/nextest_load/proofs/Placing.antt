-- Scripts that are taken out of a table in the order of names.
use Rattle.std.proofs.Common.{◌≡◌, inl, inr, List, [], ◌∷◌, ◌++◌, ◌||◌, map, Bool, true, false, cond, Option, None, Some, IsSome, IfSome, option_map, refl, sym, ap, subst, ◌∙◌}
use Rattle.std.specs.Option.{option_or}
use Rattle.std.specs.Str.{bytes_eq}
use Rattle.std.specs.BTreeMap.{is_at}
use Rattle.std.specs.Cmp.Lexicographic.{slice_cmp}
use Rattle.std.specs.Ordering.{nat_cmp}
use Rattle.std.proofs.lemmas.Bool.{cases_Bool, or_cases, or_left, or_right, or_parts, true≢false, false_from_ne_true}
use Rattle.std.proofs.lemmas.Slice.Eq.{bytes_eq-Decides}
use Rattle.std.proofs.lemmas.Map.Text.{is_eq-slice_cmp}
use Rattle.indexmap.specs.IndexMap.{insert_entry}
use Rattle.nextest_tree.specs.Schema.{is_one_of}
use Rattle.nextest_rules.specs.Rules.{at_name}
use Rattle.nextest_tables.specs.Written.{Name}
use Rattle.nextest_load.specs.ScriptNames.{AllComeFirst}
use Rattle.nextest_load.proofs.NamesInOrder.{one_of_more, order_among_more, order_with_last}

-- the result of one name more
pub or_one_more : (names : List Name) (n q : Name) → is_one_of (names ++ n ∷ []) q ≡ (is_one_of names q || bytes_eq n q)
or_one_more names n q = one_of_more names (n ∷ []) q ∙ ap (λ b. is_one_of names q || b) (last (bytes_eq n q))
  where
    last : (a : Bool) → (a || false) ≡ a
    last true = refl
    last false = refl

pub or_none : {X : Type 0} (o : Option X) → option_or o None ≡ o
or_none None = refl
or_none (Some x) = refl

none_of_either : {X : Type 0} (o p : Option X) → option_or o p ≡ None → (o ≡ None) × (p ≡ None)
none_of_either None p h = (refl, h)
none_of_either (Some x) p h = cc

same_name : (n q : Name) → bytes_eq n q ≡ true → n ≡ q
same_name n q h = (bytes_eq-Decides n q).0 h

turned : (n q : Name) → bytes_eq n q ≡ false → bytes_eq q n ≡ false
turned n q h = false_from_ne_true (bytes_eq q n)
    (λ same. true≢false (sym ((bytes_eq-Decides n q).1 (sym (same_name q n same))) ∙ h))

-- a name that is not among those of the entries
pub absent_name : {X : Type 0} (es : List (Name × X)) (q : Name) → is_one_of (map (λ e. e.0) es) q ≡ false
    → at_name q es ≡ None
absent_name [] q h = refl
absent_name (e ∷ es) q h =
    let parts = or_parts (bytes_eq e.0 q) (is_one_of (map (λ e. e.0) es) q) h in
    rw (is_eq-slice_cmp q e.0, turned e.0 q parts.0) (absent_name es q parts.1)

or_behind : {X : Type 0} (b : Bool) (x : X) (p r o : Option X) → o ≡ option_or p r
    → cond b (Some x) o ≡ option_or (cond b (Some x) p) r
or_behind true x p r o h = refl
or_behind false x p r o h = h

-- an entry more
pub at_last : {X : Type 0} (es : List (Name × X)) (n q : Name) (x : X)
    → at_name q (es ++ (n, x) ∷ []) ≡ option_or (at_name q es) (cond (bytes_eq q n) (Some x) None)
at_last [] n q x = ap (λ b. cond b (Some x) None) (is_eq-slice_cmp q n)
at_last (e ∷ es) n q x = or_behind (is_at (slice_cmp nat_cmp q) e.0) e.1 (at_name q es)
    (cond (bytes_eq q n) (Some x) None) _ (at_last es n q x)

module _ {K V : Type 0} (text : K → Name) where
  -- entries by the texts of their keys
  abbrev pub named : List (K × V) → List (Name × V)
  named es = map (λ e. (text e.0, e.1)) es

  -- the texts of their keys
  abbrev pub texts : List (K × V) → List Name
  texts es = map (λ e. text e.0) es

  names_are : (es : List (K × V)) → map (λ e. e.0) (named es) ≡ texts es
  names_are [] = refl
  names_are (e ∷ es) = ap (λ ns. text e.0 ∷ ns) (names_are es)

  absent_text : (es : List (K × V)) (q : Name) → is_one_of (texts es) q ≡ false → at_name q (named es) ≡ None
  absent_text es q h = absent_name (named es) q (ap (λ ns. is_one_of ns q) (names_are es) ∙ h)

  named_push : (es : List (K × V)) (k : K) (v : V) → named (es ++ (k, v) ∷ []) ≡ named es ++ (text k, v) ∷ []
  named_push [] k v = refl
  named_push (e ∷ es) k v = ap (λ ns. (text e.0, e.1) ∷ ns) (named_push es k v)

  texts_push : (es : List (K × V)) (k : K) (v : V) → texts (es ++ (k, v) ∷ []) ≡ texts es ++ text k ∷ []
  texts_push [] k v = refl
  texts_push (e ∷ es) k v = ap (λ ns. text e.0 ∷ ns) (texts_push es k v)

  -- Scripts were placed in the order of names: those of the names, of what was there at the start;
  -- the others are left.
  pub record Placed (names : List Name) (start : Name → Option V) (left : Name → Option (K × V))
      (es : List (K × V)) : Type 0 where
    pub own : (q : Name) → IfSome (left q) (λ e. text e.0 ≡ q)
    pub all : (q : Name) → option_or (at_name q (named es)) (option_map (λ e. e.1) (left q)) ≡ start q
    pub gone : (q : Name) → is_one_of names q ≡ true → left q ≡ None
    pub among : (q : Name) → is_one_of (texts es) q ≡ true → is_one_of names q ≡ true
    pub order : AllComeFirst names (texts es)

  -- none yet
  pub placed_none : (start : Name → Option V) (left : Name → Option (K × V))
      → ((q : Name) → IfSome (left q) (λ e. text e.0 ≡ q))
      → ((q : Name) → option_map (λ e. e.1) (left q) ≡ start q) → Placed [] start left []
  placed_none start left own is = record {
    own = own;
    all = is;
    gone = λ q h. absurd (true≢false (sym h));
    among = λ q h. h;
    order = tt;
  }

  module _ (names : List Name) (start : Name → Option V) (left after : Name → Option (K × V))
      (es : List (K × V)) (n : Name)
      (taken : (q : Name) → after q ≡ cond (bytes_eq n q) None (left q)) (placed : Placed names start left es) where
    after_there : (q : Name) → bytes_eq n q ≡ true → after q ≡ None
    after_there q h = taken q ∙ ap (λ b. cond b None (left q)) h

    after_other : (q : Name) → bytes_eq n q ≡ false → after q ≡ left q
    after_other q h = taken q ∙ ap (λ b. cond b None (left q)) h

    own_after : (q : Name) → IfSome (after q) (λ e. text e.0 ≡ q)
    own_after q =
        let P : Option (K × V) → Type 0 = λ o. IfSome o (λ e. text e.0 ≡ q) in
        elim (cases_Bool (bytes_eq n q)) [
          | inl here ↦ subst P (sym (after_there q here)) tt
          | inr other ↦ subst P (sym (after_other q other)) (placed.own q)
        ]

    gone_after : (q : Name) → is_one_of (names ++ n ∷ []) q ≡ true → after q ≡ None
    gone_after q h =
        elim (cases_Bool (bytes_eq n q)) [
          | inl here ↦ after_there q here
          | inr other ↦ elim (or_cases (is_one_of names q) (bytes_eq n q) (sym (or_one_more names n q) ∙ h)) [
            | inl before ↦ after_other q other ∙ placed.gone q before
            | inr here ↦ absurd (true≢false (sym here ∙ other))
          ]
        ]

    among_more : (q : Name) → is_one_of names q ≡ true → is_one_of (names ++ n ∷ []) q ≡ true
    among_more q h = or_one_more names n q ∙ or_left (is_one_of names q) (bytes_eq n q) h

    -- no script is under the name
    pub placed_skip : left n ≡ None → Placed (names ++ n ∷ []) start after es
    placed_skip none =
        let same : (q : Name) → after q ≡ left q = λ q.
        elim (cases_Bool (bytes_eq n q)) [
          | inl here ↦ after_there q here ∙ sym none ∙ ap left (same_name n q here)
          | inr other ↦ after_other q other
        ]
        in record {
          own = own_after;
          all = λ q. ap (λ o. option_or (at_name q (named es)) (option_map (λ e. e.1) o)) (same q) ∙ placed.all q;
          gone = gone_after;
          among = λ q h. among_more q (placed.among q h);
          order = order_among_more names (n ∷ []) (texts es) placed.order;
        }

    -- one does, and it goes last
    pub placed_take : (eq : K → K → Bool) → ((a b : K) → eq a b ≡ bytes_eq (text a) (text b))
        → (k : K) (v : V) → left n ≡ Some (k, v) → Placed (names ++ n ∷ []) start after (insert_entry eq es k v)
    placed_take eq same k v there =
        let P : Option (K × V) → Type 0 = λ o. IfSome o (λ e. text e.0 ≡ n) in
        let id : text k ≡ n = subst P there (placed.own n) in
        let new : is_one_of names n ≡ false =
        false_from_ne_true (is_one_of names n)
        (λ h. let bad : Some (k, v) ≡ None = sym there ∙ placed.gone n h in cc) in
        let apart : is_one_of (texts es) n ≡ false =
        false_from_ne_true (is_one_of (texts es) n) (λ h. true≢false (sym (placed.among n h) ∙ new)) in
        let grown : insert_entry eq es k v ≡ es ++ (k, v) ∷ [] =
        goes_last es (subst (λ m. is_one_of (texts es) m ≡ false) (sym id) apart) in
        subst (Placed (names ++ n ∷ []) start after) (sym grown) (record {
          own = own_after;
          all = λ q. at_each q id apart;
          gone = gone_after;
          among = λ q h. among_last q id (ap (λ ns. is_one_of ns q) (sym (texts_push es k v)) ∙ h);
          order = subst (AllComeFirst (names ++ n ∷ []))
              (ap (λ m. texts es ++ m ∷ []) (sym id) ∙ sym (texts_push es k v))
              (order_with_last names (texts es) n placed.order placed.among new);
        })
      where
        goes_last : (es : List (K × V)) → is_one_of (texts es) (text k) ≡ false
            → insert_entry eq es k v ≡ es ++ (k, v) ∷ []
        goes_last [] h = refl
        goes_last (e ∷ es) h =
            let parts = or_parts (bytes_eq (text e.0) (text k)) (is_one_of (texts es) (text k)) h in
            rw (same k e.0, turned (text e.0) (text k) parts.0) (ap (λ rest. e ∷ rest) (goes_last es parts.1))

        at_each : (q : Name) → text k ≡ n → is_one_of (texts es) n ≡ false
            → option_or (at_name q (named (es ++ (k, v) ∷ []))) (option_map (λ e. e.1) (after q)) ≡ start q
        at_each q id apart =
            let pushed : at_name q (named (es ++ (k, v) ∷ []))
            ≡ option_or (at_name q (named es)) (cond (bytes_eq q n) (Some v) None) =
            ap (at_name q) (named_push es k v) ∙ at_last (named es) (text k) q v
            ∙ ap (λ m. option_or (at_name q (named es)) (cond (bytes_eq q m) (Some v) None)) id
            in
            elim (cases_Bool (bytes_eq n q)) [
              | inl here ↦
                  let is = same_name n q here in
                  let none : at_name q (named es) ≡ None =
                  subst (λ m. at_name m (named es) ≡ None) is (absent_text es n apart) in
                  let yes : bytes_eq q n ≡ true = (bytes_eq-Decides q n).1 (sym is) in
                  let was : left q ≡ Some (k, v) = sym (ap left is) ∙ there in
                  ap (λ o. option_or o (option_map (λ e. e.1) (after q)))
                  (pushed ∙ (λ i. option_or (none i) (cond (yes i) (Some v) None)))
                  ∙ sym (λ i. option_or (none i) (option_map (λ e. e.1) (was i))) ∙ placed.all q
              | inr other ↦
                  let no : bytes_eq q n ≡ false = turned n q other in
                  (λ i. option_or (pushed i) (option_map (λ e. e.1) (after_other q other i)))
                  ∙ ap (λ o. option_or o (option_map (λ e. e.1) (left q)))
                  (ap (λ b. option_or (at_name q (named es)) (cond b (Some v) None)) no
                  ∙ or_none (at_name q (named es)))
                  ∙ placed.all q
            ]

        among_last : (q : Name) → text k ≡ n → is_one_of (texts es ++ text k ∷ []) q ≡ true
            → is_one_of (names ++ n ∷ []) q ≡ true
        among_last q id h =
            elim (or_cases (is_one_of (texts es) q) (bytes_eq (text k) q)
            (sym (or_one_more (texts es) (text k) q) ∙ h)) [
              | inl before ↦ among_more q (placed.among q before)
              | inr here ↦ or_one_more names n q
                  ∙ or_right (is_one_of names q) (bytes_eq n q) (ap (λ m. bytes_eq m q) (sym id) ∙ here)
            ]

  -- where each script is named, all were placed
  pub placed_all : (names : List Name) (start : Name → Option V) (left : Name → Option (K × V))
      (es : List (K × V)) → Placed names start left es
      → ((q : Name) → IsSome (start q) → is_one_of names q ≡ true) → (q : Name) → at_name q (named es) ≡ start q
  placed_all names start left es placed named_each q =
      let none = cases (start q) refl in
      sym (or_none (at_name q (named es))) ∙ ap (option_or (at_name q (named es))) (sym none) ∙ placed.all q
    where
      cases : (o : Option V) → start q ≡ o → option_map (λ e. e.1) (left q) ≡ None
      cases None is = (none_of_either (at_name q (named es)) (option_map (λ e. e.1) (left q)) (placed.all q ∙ is)).1
      cases (Some v) is = ap (option_map (λ e. e.1)) (placed.gone q (named_each q (subst IsSome (sym is) refl)))

  -- entries of a table more, where their names are not there yet
  module _ (old after : Name → Option (K × V)) (k : K) (v : V) where
    pub own_more : ((q : Name) → IfSome (old q) (λ e. text e.0 ≡ q))
        → ((q : Name) → after q ≡ cond (bytes_eq (text k) q) (Some (k, v)) (old q)) → (q : Name)
        → IfSome (after q) (λ e. text e.0 ≡ q)
    own_more own added q =
        let P : Option (K × V) → Type 0 = λ o. IfSome o (λ e. text e.0 ≡ q) in
        elim (cases_Bool (bytes_eq (text k) q)) [
          | inl here ↦ subst P (sym (added q ∙ ap (λ b. cond b (Some (k, v)) (old q)) here)) (same_name (text k) q here)
          | inr other ↦ subst P (sym (added q ∙ ap (λ b. cond b (Some (k, v)) (old q)) other)) (own q)
        ]

    -- one that is added
    pub added_new : old (text k) ≡ None
        → ((q : Name) → after q ≡ cond (bytes_eq (text k) q) (Some (k, v)) (old q)) → (q : Name) (rest : List (K × V))
        → option_or (option_map (λ e. e.1) (after q)) (at_name q (named rest))
        ≡ option_or (option_map (λ e. e.1) (old q)) (at_name q (named ((k, v) ∷ rest)))
    added_new none added q rest =
        let more = at_name q (named rest) in
        elim (cases_Bool (bytes_eq (text k) q)) [
          | inl here ↦
              let is = same_name (text k) q here in
              let was : old q ≡ None = sym (ap old is) ∙ none in
              let now : after q ≡ Some (k, v) = added q ∙ ap (λ b. cond b (Some (k, v)) (old q)) here in
              let yes : is_at (slice_cmp nat_cmp q) (text k) ≡ true =
              is_eq-slice_cmp q (text k) ∙ (bytes_eq-Decides q (text k)).1 (sym is) in
              (λ i. option_or (option_map (λ e. e.1) (now i)) more)
              ∙ sym (λ i. option_or (option_map (λ e. e.1) (was i)) (cond (yes i) (Some v) more))
          | inr other ↦
              let now : after q ≡ old q = added q ∙ ap (λ b. cond b (Some (k, v)) (old q)) other in
              let no : is_at (slice_cmp nat_cmp q) (text k) ≡ false =
              is_eq-slice_cmp q (text k) ∙ turned (text k) q other in
              (λ i. option_or (option_map (λ e. e.1) (now i)) more)
              ∙ sym (ap (λ b. option_or (option_map (λ e. e.1) (old q)) (cond b (Some v) more)) no)
        ]

    -- or one whose name is there
    pub added_none : IsSome (old (text k)) → (q : Name) (rest : List (K × V))
        → option_or (option_map (λ e. e.1) (old q)) (at_name q (named rest))
        ≡ option_or (option_map (λ e. e.1) (old q)) (at_name q (named ((k, v) ∷ rest)))
    added_none some q rest =
        let more = at_name q (named rest) in
        elim (cases_Bool (bytes_eq (text k) q)) [
          | inl here ↦ kept (old q) more (cond (is_at (slice_cmp nat_cmp q) (text k)) (Some v) more)
              (subst (λ n. IsSome (old n)) (same_name (text k) q here) some)
          | inr other ↦
              let no : is_at (slice_cmp nat_cmp q) (text k) ≡ false =
              is_eq-slice_cmp q (text k) ∙ turned (text k) q other in
              sym (ap (λ b. option_or (option_map (λ e. e.1) (old q)) (cond b (Some v) more)) no)
        ]
      where
        kept : (o : Option (K × V)) (r s : Option V) → IsSome o
            → option_or (option_map (λ e. e.1) o) r ≡ option_or (option_map (λ e. e.1) o) s
        kept None r s h = cc
        kept (Some e) r s h = refl
