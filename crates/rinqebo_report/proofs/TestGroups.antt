-- Things in groups, by a text of each, while one more comes.
use Rattle.std.proofs.Common.{ℕ, zero, suc, ◌+◌, Bool, true, false, cond, not, ◌||◌, List, [], ◌∷◌, ◌++◌, map, filter, fold, ◌≡◌, refl, sym, ap, subst, ◌∙◌, true≢false, if◌then◌else◌, arith}
use Rattle.std.proofs.Math.Bool.{or-false, or_assoc}
use Rattle.std.proofs.lemmas.List.{append-nil, append_assoc, map-append}
use Rattle.std.proofs.lemmas.List.Elements.{filter-append}
use Rattle.std.proofs.lemmas.List.Folds.{list_any-append}
use Rattle.std.proofs.lemmas.List.Sums.{fold_push}
use Rattle.std.proofs.lemmas.Map.Keys.{IsDistinct-head, IsDistinct-tail}
use Rattle.std.specs.Cmp.{IsEquivalence}
use Rattle.std.specs.List.{list_any, position_or_len, IsDistinct, AllByRecursion}
use Rattle.indexmap.specs.IndexSet.{insert_key}
use Rattle.rinqebo_report.specs.Groups.{with_member}

-- nothing passes
filter_none : {A : Type 0} (p : A → Bool) (xs : List A) → list_any p xs ≡ false → filter p xs ≡ []
filter_none p [] h = refl
filter_none {A} p (x ∷ xs) h = by (p x) refl (filter_none p xs)
  where
    by : (b : Bool) → p x ≡ b → (list_any p xs ≡ false → filter p xs ≡ []) → filter p (x ∷ xs) ≡ []
    by true is rest = absurd (true≢false (sym (ap (λ b. b || list_any p xs) is) ∙ h))
    by false is rest =
        ap (λ b. if b then x ∷ filter p xs else filter p xs) is
        ∙ rest (sym (ap (λ b. b || list_any p xs) is) ∙ h)

-- keys that are compared by what f gives of them
module _ {S K : Type 0} (f : S → K) (e : K → K → Bool) where
  abbrev pub by_f : S → S → Bool
  by_f a b = e (f a) (f b)

  any_f : (k : K) (ks : List S) → list_any (λ s. e k (f s)) ks ≡ list_any (e k) (map f ks)
  any_f k [] = refl
  any_f k (s ∷ ks) = ap (λ b. e k (f s) || b) (any_f k ks)

  pub position_f : (k : K) (ks : List S)
      → position_or_len (λ s. e k (f s)) ks ≡ position_or_len (e k) (map f ks)
  position_f k [] = refl
  position_f k (s ∷ ks) = ap (λ n. cond (not (e k (f s))) (1 + n) 0) (position_f k ks)

  all_f : (k : K) (ks : List S) → AllByRecursion (λ s. e k (f s) ≡ false) ks
      → AllByRecursion (λ y. e k y ≡ false) (map f ks)
  all_f k [] h = tt
  all_f k (s ∷ ks) h = (h.0, all_f k ks h.1)

  pub distinct_f : (ks : List S) → IsDistinct by_f ks → IsDistinct e (map f ks)
  unfolding IsDistinct
  distinct_f [] d = tt
  distinct_f (s ∷ ks) d = (all_f (f s) ks d.0, distinct_f ks d.1)

  pub insert_f : (ks : List S) (s : S)
      → map f (insert_key by_f ks s) ≡ insert_key e (map f ks) (f s)
  insert_f ks s = by (list_any (by_f s) ks) refl
    where
      by : (b : Bool) → list_any (by_f s) ks ≡ b
          → map f (if b then ks else ks ++ s ∷ []) ≡ insert_key e (map f ks) (f s)
      by true is =
          sym (ap (λ b. if b then map f ks else map f ks ++ f s ∷ []) (sym (any_f (f s) ks) ∙ is))
      by false is =
          map-append f ks (s ∷ [])
          ∙ sym (ap (λ b. if b then map f ks else map f ks ++ f s ∷ []) (sym (any_f (f s) ks) ∙ is))

module _ {A K : Type 0} (e : K → K → Bool) (laws : IsEquivalence e) (text : A → K) where
  abbrev pub has : K → A → Bool
  has x a = e (text a) x

  abbrev pub with_one : List A → A → List A
  with_one found a = if list_any (has (text a)) found then found else found ++ a ∷ []

  abbrev pub firsts_of : List A → List A
  firsts_of xs = fold with_one [] xs

  abbrev pub groups_in : List A → List (List A)
  groups_in xs = map (λ first. filter (has (text first)) xs) (firsts_of xs)

  any_keys : (k : K) (xs : List A) → list_any (has k) xs ≡ list_any (e k) (map text xs)
  any_keys k xs = (λ j. list_any (λ a. laws.symm (text a) k j) xs) ∙ any_f text e k xs

  others : (x k : K) (ks : List K) → e x k ≡ true → AllByRecursion (λ y. e k y ≡ false) ks
      → AllByRecursion (λ y. e x y ≡ false) ks
  others x k [] same h = tt
  others x k (y ∷ ks) same h = (laws.congr x k y same ∙ h.0, others x k ks same h.1)

  -- the firsts have each text
  with_covered : (x : K) (found : List A) (t : A)
      → list_any (has x) (with_one found t) ≡ (list_any (has x) found || has x t)
  with_covered x found t = by (list_any (has (text t)) found) refl
    where
      known : (b : Bool) → has x t ≡ b → list_any (has (text t)) found ≡ true
          → list_any (has x) found ≡ (list_any (has x) found || b)
      known true same there =
          let alike : (f : A) → has x f ≡ has (text t) f = λ f.
          laws.symm (text f) x ∙ sym (laws.congr (text t) x (text f) same)
          ∙ laws.symm (text t) (text f) in
          let yes : list_any (has x) found ≡ true = (λ j. list_any (λ f. alike f j) found) ∙ there in
          yes ∙ sym (ap (λ b. b || true) yes)
      known false same there = sym (or-false _)

      by : (b : Bool) → list_any (has (text t)) found ≡ b
          → list_any (has x) (if b then found else found ++ t ∷ []) ≡ (list_any (has x) found || has x t)
      by true is = known (has x t) refl is
      by false is =
          list_any-append (has x) found (t ∷ [])
          ∙ ap (λ b. list_any (has x) found || b) (or-false (has x t))

  covered : (x : K) (found xs : List A)
      → list_any (has x) (fold with_one found xs) ≡ (list_any (has x) found || list_any (has x) xs)
  covered x found [] = sym (or-false _)
  covered x found (t ∷ xs) =
      covered x (with_one found t) xs
      ∙ ap (λ b. b || list_any (has x) xs) (with_covered x found t)
      ∙ or_assoc (list_any (has x) found) (has x t) (list_any (has x) xs)

  -- the texts of the firsts, with one more thing
  pub firsts_more : (xs : List A) (t : A)
      → map text (firsts_of (xs ++ t ∷ [])) ≡ insert_key e (map text (firsts_of xs)) (text t)
  firsts_more xs t =
      ap (map text) (fold_push with_one [] xs t) ∙ by (list_any (has (text t)) fs) refl
    where
      fs : List A
      fs = firsts_of xs

      by : (b : Bool) → list_any (has (text t)) fs ≡ b
          → map text (if b then fs else fs ++ t ∷ []) ≡ insert_key e (map text fs) (text t)
      by true is =
          sym (ap (λ b. if b then map text fs else map text fs ++ text t ∷ []) (sym (any_keys (text t) fs) ∙ is))
      by false is =
          map-append text fs (t ∷ [])
          ∙ sym (ap (λ b. if b then map text fs else map text fs ++ text t ∷ []) (sym (any_keys (text t) fs) ∙ is))

  module _ (xs : List A) (t : A) where
    abbrev pub old : A → List A
    old f = filter (has (text f)) xs

    abbrev pub new : A → List A
    new f = filter (has (text f)) (xs ++ t ∷ [])

    abbrev pub place : List A → ℕ
    place fs = position_or_len (e (text t)) (map text fs)

    stays : (f : A) → e (text t) (text f) ≡ false → new f ≡ old f
    stays f h =
        filter-append (has (text f)) xs (t ∷ [])
        ∙ ap (λ b. old f ++ (if b then t ∷ [] else [])) h ∙ append-nil (old f)

    grows : (f : A) → e (text t) (text f) ≡ true → new f ≡ old f ++ t ∷ []
    grows f h =
        filter-append (has (text f)) xs (t ∷ []) ∙ ap (λ b. old f ++ (if b then t ∷ [] else [])) h

    all_stay : (fs : List A) → AllByRecursion (λ y. e (text t) y ≡ false) (map text fs)
        → map new fs ≡ map old fs
    all_stay [] h = refl
    all_stay (f ∷ fs) h = λ j. stays f h.0 j ∷ all_stay fs h.1 j

    here : (f : A) (fs : List A) → e (text t) (text f) ≡ true → place (f ∷ fs) ≡ zero
    here f fs is = ap (λ b. cond (not b) (1 + place fs) 0) is

    there : (f : A) (fs : List A) → e (text t) (text f) ≡ false → place (f ∷ fs) ≡ suc (place fs)
    there f fs is =
        let next : 1 + place fs ≡ suc (place fs) = omega arith in
        ap (λ b. cond (not b) (1 + place fs) 0) is ∙ next

    -- in the group of its text
    joins : (fs : List A) → IsDistinct e (map text fs) → list_any (e (text t)) (map text fs) ≡ true
        → map new fs ≡ with_member (map old fs) (place fs) t
    joins [] d h = absurd (true≢false (sym h))
    joins (f ∷ fs) d h =
        by (e (text t) (text f)) refl (joins fs (IsDistinct-tail e (text f) (map text fs) d))
      where
        by : (b : Bool) → e (text t) (text f) ≡ b
            → (list_any (e (text t)) (map text fs) ≡ true
            → map new fs ≡ with_member (map old fs) (place fs) t)
            → map new (f ∷ fs) ≡ with_member (map old (f ∷ fs)) (place (f ∷ fs)) t
        by true is later =
            let apart = others (text t) (text f) (map text fs) is (IsDistinct-head e (text f) (map text fs) d) in
            (λ j. grows f is j ∷ all_stay fs apart j)
            ∙ sym (ap (λ n. with_member (map old (f ∷ fs)) n t) (here f fs is))
        by false is later =
            let any = sym (ap (λ b. b || list_any (e (text t)) (map text fs)) is) ∙ h in
            (λ j. stays f is j ∷ later any j)
            ∙ sym (ap (λ n. with_member (map old (f ∷ fs)) n t) (there f fs is))

    -- in a group of its own
    begins : (fs : List A) → list_any (e (text t)) (map text fs) ≡ false
        → map new fs ++ (t ∷ []) ∷ [] ≡ with_member (map old fs) (place fs) t
    begins [] h = refl
    begins (f ∷ fs) h = by (e (text t) (text f)) refl (begins fs)
      where
        by : (b : Bool) → e (text t) (text f) ≡ b
            → (list_any (e (text t)) (map text fs) ≡ false
            → map new fs ++ (t ∷ []) ∷ [] ≡ with_member (map old fs) (place fs) t)
            → map new (f ∷ fs) ++ (t ∷ []) ∷ [] ≡ with_member (map old (f ∷ fs)) (place (f ∷ fs)) t
        by true is later = absurd (true≢false (sym (ap (λ b. b || list_any (e (text t)) (map text fs)) is) ∙ h))
        by false is later =
            let none = sym (ap (λ b. b || list_any (e (text t)) (map text fs)) is) ∙ h in
            (λ j. stays f is j ∷ later none j)
            ∙ sym (ap (λ n. with_member (map old (f ∷ fs)) n t) (there f fs is))

    -- the first of its text
    pub alone : list_any (has (text t)) xs ≡ false → new t ≡ t ∷ []
    alone h = grows t (laws.refl (text t)) ∙ ap (λ g. g ++ t ∷ []) (filter_none (has (text t)) xs h)

    -- the groups, with one more thing
    pub groups_more : IsDistinct e (map text (firsts_of xs))
        → groups_in (xs ++ t ∷ []) ≡ with_member (groups_in xs) (place (firsts_of xs)) t
    groups_more d =
        ap (map new) (fold_push with_one [] xs t) ∙ by (list_any (has (text t)) fs) refl
      where
        fs : List A
        fs = firsts_of xs

        by : (b : Bool) → list_any (has (text t)) fs ≡ b
            → map new (if b then fs else fs ++ t ∷ []) ≡ with_member (map old fs) (place fs) t
        by true is = joins fs d (sym (any_keys (text t) fs) ∙ is)
        by false is =
            let none = sym (covered (text t) [] xs) ∙ is in
            map-append new fs (t ∷ []) ∙ ap (λ g. map new fs ++ g ∷ []) (alone none)
            ∙ begins fs (sym (any_keys (text t) fs) ∙ is)

  -- a list that begins with this
  abbrev pub Begins : A → List A → Type 0
  Begins f xs = (rest : List A) × (xs ≡ f ∷ rest)

  begins_more : (f : A) (xs ys : List A) → Begins f xs → Begins f (xs ++ ys)
  begins_more f xs ys h = (h.0 ++ ys, ap (λ l. l ++ ys) h.1)

  all_begin_more : (xs : List A) (t : A) (fs : List A)
      → AllByRecursion (λ f. Begins f (filter (has (text f)) xs)) fs
      → AllByRecursion (λ f. Begins f (filter (has (text f)) (xs ++ t ∷ []))) fs
  all_begin_more xs t [] h = tt
  all_begin_more xs t (f ∷ fs) h = (
    subst (Begins f) (sym (filter-append (has (text f)) xs (t ∷ [])))
        (begins_more f (filter (has (text f)) xs) (filter (has (text f)) (t ∷ [])) h.0),
    all_begin_more xs t fs h.1,
  )

  all_push : (P : A → Type 0) (xs : List A) (t : A) → AllByRecursion P xs → P t
      → AllByRecursion P (xs ++ t ∷ [])
  all_push P [] t h p = (p, tt)
  all_push P (x ∷ xs) t h p = (h.0, all_push P xs t h.1 p)

  -- each group of these begins with the first of it
  abbrev pub FirstsBegin : List A → Type 0
  FirstsBegin xs = AllByRecursion (λ f. Begins f (filter (has (text f)) xs)) (firsts_of xs)

  firsts_begin_more : (xs : List A) (t : A) → FirstsBegin xs → FirstsBegin (xs ++ t ∷ [])
  firsts_begin_more xs t h =
      subst (AllByRecursion P) (sym (fold_push with_one [] xs t))
      (by (list_any (has (text t)) fs) refl)
    where
      fs : List A
      fs = firsts_of xs

      P : A → Type 0
      P f = Begins f (filter (has (text f)) (xs ++ t ∷ []))

      by : (b : Bool) → list_any (has (text t)) fs ≡ b
          → AllByRecursion P (if b then fs else fs ++ t ∷ [])
      by true is = all_begin_more xs t fs h
      by false is =
          all_push P fs t (all_begin_more xs t fs h)
          ([], alone xs t (sym (covered (text t) [] xs) ∙ is))

  firsts_begin_from : (before xs : List A) → FirstsBegin before → FirstsBegin (before ++ xs)
  firsts_begin_from before [] h = subst FirstsBegin (sym (append-nil before)) h
  firsts_begin_from before (x ∷ xs) h =
      subst FirstsBegin (append_assoc before (x ∷ []) xs)
      (firsts_begin_from (before ++ x ∷ []) xs (firsts_begin_more before x h))

  pub firsts_begin : (xs : List A) → FirstsBegin xs
  firsts_begin xs = firsts_begin_from [] xs tt
