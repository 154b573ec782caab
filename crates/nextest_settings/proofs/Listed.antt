-- What is found in lists of rules is what the rules decide, and the same filters are evaluated.
use Rattle.std.proofs.Common.{◌≡◌, ℕ, ◌+◌, Bool, true, false, Option, Some, None, IfSome, is_some, is_none, option_map, List, [], ◌∷◌, ◌++◌, length, map, find, cond, refl, ap, sym, ◌∙◌, ◌&&◌, ◌||◌, length-append, arith, suc, slice_get}
use Rattle.std.specs.List.{list_any}
use Rattle.std.proofs.lemmas.List.{map-append}
use Rattle.rule_lists.specs.Lists.{first_of, firsts, is_wanted, asked_from as listed_from}
use Rattle.nextest_settings.specs.Deciding.{QueryContext, filter_holds, decides, winner, asked_from}
use Rattle.nextest_settings.specs.Index.{is_listed}
use Rattle.nextest_settings.specs.Platforms.{EvaluatedRule, is_on}

and-swap : (a b c : Bool) → (a && b) && c ≡ (a && c) && b
and-swap true true c = elim c as (λ v. v ≡ v && true) [ true ↦ refl | false ↦ refl ]
and-swap true false c = elim c as (λ v. false ≡ v && false) [ true ↦ refl | false ↦ refl ]
and-swap false b c = refl

is_none-map : {A B : Type 0} (f : A → B) (o : Option A) → is_none (option_map f o) ≡ is_none o
is_none-map f None = refl
is_none-map f (Some x) = refl

-- the first element that passes, as a function of the elements shows it
find-seen : {A B : Type 0} (f : A → B) (p : A → Bool) (q : B → Bool) → ((x : A) → p x ≡ q (f x))
    → (xs : List A) → option_map f (find p xs) ≡ find q (map f xs)
find-seen f p q same [] = refl
find-seen f p q same (x ∷ xs) =
    rw (← same x) (elim (p x) as
    (λ b. option_map f (cond b (Some x) (find p xs)) ≡ cond b (Some (f x)) (find q (map f xs)))
    [ true ↦ refl | false ↦ find-seen f p q same xs ])

-- a platform that doesn't hold rules out each thing
open-on : (on none set more rest : Bool) → more ≡ on && rest
    → (none && (on && set)) || more ≡ on && ((none && set) || rest)
open-on true none set more rest e = rw e refl
open-on false true set more rest e = e
open-on false false set more rest e = e

off-none : (b : Bool) → false ≡ b && false
off-none true = refl
off-none false = refl

-- rules as f shows them, and the things that they write
module _ {A M W T : Type 0} (f : A → EvaluatedRule M W) (writes : T → W → Bool) (query : QueryContext M) where
  abbrev pub met : A → Bool
  met x = filter_holds query.matches (f x).filter

  abbrev pub asks : A → Bool
  asks x = is_some (f x).filter

  abbrev pub listed : T → A → Bool
  listed t x = is_listed query.platform (writes t) (f x)

  pub winner-seen : (t : T) (xs : List A)
      → option_map f (first_of met (listed t) xs) ≡ winner query (writes t) (map f xs)
  winner-seen t xs = find-seen f (λ x. listed t x && met x) (decides query (writes t))
      (λ x. and-swap (is_on (f x) query.platform) (writes t (f x).writes) (met x)) xs

  pub winners-seen : (ts : List T) (xs : List A)
      → map (option_map f) (firsts met (map listed ts) xs) ≡ map (λ t. winner query (writes t) (map f xs)) ts
  winners-seen [] xs = refl
  winners-seen (t ∷ ts) xs = rw (winner-seen t xs, winners-seen ts xs) refl

  wanted-seen : (ts : List T) (before : List A) (x : A) → is_wanted met (map listed ts) before x
      ≡ is_on (f x) query.platform
      && list_any (λ wants. is_none (winner query wants (map f before)) && wants (f x).writes) (map writes ts)
  wanted-seen [] before x = off-none (is_on (f x) query.platform)
  wanted-seen (t ∷ ts) before x =
      let same : is_none (first_of met (listed t) before) ≡ is_none (winner query (writes t) (map f before)) =
      sym (is_none-map f (first_of met (listed t) before)) ∙ ap is_none (winner-seen t before) in
      rw same
      (open-on (is_on (f x) query.platform) (is_none (winner query (writes t) (map f before)))
      (writes t (f x).writes) (is_wanted met (map listed ts) before x)
      (list_any (λ wants. is_none (winner query wants (map f before)) && wants (f x).writes) (map writes ts))
      (wanted-seen ts before x))

  told-seen : (ts : List T) (first n : ℕ) (before rest : List A) → n ≡ first + length (map f before)
      → listed_from asks met (map listed ts) n before rest
      ≡ asked_from (map writes ts) first query (map f before) (map f rest)
  told-seen ts first n before [] e = refl
  told-seen ts first n before (x ∷ rest) e =
      let more : map f (before ++ x ∷ []) ≡ map f before ++ f x ∷ [] = map-append f before (x ∷ []) in
      let long : length (map f (before ++ x ∷ [])) ≡ length (map f before) + 1 =
      ap length more ∙ length-append (map f before) (f x ∷ []) in
      let next : n + 1 ≡ first + length (map f (before ++ x ∷ [])) = omega (arith, e, long) in
      rw (wanted-seen ts before x, told-seen ts first (n + 1) (before ++ x ∷ []) rest next, more, e) refl

  pub all-told : (ts : List T) (first : ℕ) (rules : List A)
      → listed_from asks met (map listed ts) first [] rules ≡ asked_from (map writes ts) first query [] (map f rules)
  all-told ts first rules = told-seen ts first first [] rules (omega arith)

-- what is found first is one of the rules, and passes
pub found-among : {A : Type 0} (holds test : A → Bool) (xs : List A)
    → IfSome (first_of holds test xs) (λ x. (n : ℕ) × (slice_get xs n ≡ Some x))
found-among holds test [] = tt
found-among {A = A} holds test (x ∷ xs) = go (test x && holds x) (found-among holds test xs) where
  further : (o : Option A) → IfSome o (λ y. (n : ℕ) × (slice_get xs n ≡ Some y))
      → IfSome o (λ y. (n : ℕ) × (slice_get (x ∷ xs) n ≡ Some y))
  further None h = tt
  further (Some y) h = (suc h.0, h.1)

  go : (b : Bool) → IfSome (first_of holds test xs) (λ y. (n : ℕ) × (slice_get xs n ≡ Some y))
      → IfSome (cond b (Some x) (first_of holds test xs)) (λ y. (n : ℕ) × (slice_get (x ∷ xs) n ≡ Some y))
  go true h = (0, refl)
  go false h = further (first_of holds test xs) h

pub found-passes : {A : Type 0} (holds test : A → Bool) (xs : List A)
    → IfSome (first_of holds test xs) (λ x. test x ≡ true)
found-passes holds test [] = tt
found-passes holds test (x ∷ xs) = go (test x) (holds x) refl (found-passes holds test xs) where
  go : (b m : Bool) → test x ≡ b → IfSome (first_of holds test xs) (λ y. test y ≡ true)
      → IfSome (cond (b && m) (Some x) (first_of holds test xs)) (λ y. test y ≡ true)
  go true true is h = is
  go true false is h = h
  go false m is h = h
