-- The ancestors of a name, up to where it comes again.
use Rattle.std.proofs.Common.{◌≡◌, ◌≢◌, ℕ, zero, suc, ◌+◌, ◌≤◌, List, [], ◌∷◌, ◌++◌, length, take, Bool, true, false, not, ◌&&◌, cond, Option, None, Some, option_map, refl, sym, ap, ◌∙◌, subst, arith, length-append, one-add}
use Rattle.std.specs.List.{AllByRecursion, IsDistinct, before_first, list_all, position_or_len}
use Rattle.std.specs.Option.{unwrap_or}
use Rattle.std.specs.Set.{is_member}
use Rattle.std.specs.Str.{bytes_eq}
use Rattle.std.proofs.lemmas.Bool.{and_parts, and_from, not-true, not_from_false, false_from_ne_true}
use Rattle.std.proofs.lemmas.Cmp.{nat_list_eq_equiv}
use Rattle.std.proofs.lemmas.Slice.Eq.{bytes_eq-Decides}
use Rattle.nextest_inheritance.specs.Names.{Name, is_base, precedes}
use Rattle.nextest_inheritance.specs.Parents.{Parents}
use Rattle.nextest_inheritance.specs.Cycles.{LeadTo, IsCycleFrom, ancestors, is_cycle, cycle_from}
use Rattle.nextest_inheritance.proofs.Members.{In, here, there, here_at, split_at, in_member, member_in, distinct_head, distinct_cons}
use Rattle.nextest_inheritance.proofs.Trails.{lead_back, lead_one}

-- the names before one comes
abbrev until : Name → List Name → List Name
until last [] = []
until last (x ∷ xs) = cond (bytes_eq last x) [] (x ∷ until last xs)

until_at : (last x : Name) (xs : List Name) (same : Bool) → before_first (bytes_eq last) xs ≡ until last xs
    → take (cond (not same) (1 + position_or_len (bytes_eq last) xs) 0) (x ∷ xs) ≡ cond same [] (x ∷ until last xs)
until_at last x xs true later = refl
until_at last x xs false later = rw one-add (ap (λ l. x ∷ l) later)

is_until : (last : Name) (names : List Name) → before_first (bytes_eq last) names ≡ until last names
is_until last [] = refl
is_until last (x ∷ xs) = until_at last x xs (bytes_eq last x) (is_until last xs)

-- a way that comes to the last for the first time repeats no name
pub lead_distinct : (parents : Parents) (last x : Name) (xs : List Name) → LeadTo parents last (x ∷ xs)
    → (In last xs → ⊥) → IsDistinct bytes_eq (x ∷ xs)
unfolding IsDistinct
lead_distinct parents last x [] leads out = (tt, tt)
lead_distinct parents last x (y ∷ ys) leads out =
    distinct_cons x (y ∷ ys) (λ i. again i) (lead_distinct parents last y ys leads.1 (λ i. out (there i)))
  where
    again : In x (y ∷ ys) → ⊥
    again i =
        let s = split_at x (y ∷ ys) i in
        let P : List Name → Type 0 = LeadTo parents last in
        let back = lead_back parents last s.front (x ∷ s.back) (subst P s.is leads.1) in
        let Q : List Name → Type 0 = λ l. In last l → ⊥ in
        let away : In last s.back → ⊥ = λ j. subst Q s.is out (in_later last x s.front s.back j) in
        let same = lead_one parents last x (y ∷ ys) s.back leads back out away in
        absurd (omega (arith, ap length same, ap length s.is, length-append s.front (x ∷ s.back)))
      where
        in_later : (z x : Name) (front back : List Name) → In z back → In z (front ++ x ∷ back)
        in_later z x [] back j = there j
        in_later z x (w ∷ front) back j = there (in_later z x front back j)

not_here : (x y : Name) → (x ≡ y → ⊥) → bytes_eq x y ≡ false
not_here x y other = false_from_ne_true _ (λ t. other ((bytes_eq-Decides x y).0 t))

until_out_at : (last x : Name) (xs : List Name) (same : Bool) → bytes_eq last x ≡ same → (In last (until last xs) → ⊥)
    → In last (cond same [] (x ∷ until last xs)) → ⊥
until_out_at last x xs true is out i = elim i [ ]
until_out_at last x xs false is out here =
    let bad : true ≡ false = sym (nat_list_eq_equiv.refl last) ∙ is in cc
until_out_at last x xs false is out (there i) = out i

until_out : (last : Name) (names : List Name) → In last (until last names) → ⊥
until_out last [] i = elim i [ ]
until_out last (x ∷ xs) i = until_out_at last x xs (bytes_eq last x) refl (until_out last xs) i

-- the ancestors of a name with a parent
ancestors_some : (parents : Parents) (n : ℕ) (x y : Name) → parents x ≡ Some y
    → ancestors parents (suc n) x ≡ y ∷ ancestors parents n y
ancestors_some parents n x y is = rw is refl

-- the ancestors before a name comes lead to it
up_to_at : (parents : Parents) (last x y : Name) (names : List Name) (same : Bool) → bytes_eq last y ≡ same
    → parents x ≡ Some y → In last (y ∷ names)
    → (In last names → LeadTo parents last (y ∷ until last names))
    → LeadTo parents last (x ∷ cond same [] (y ∷ until last names))
up_to_at parents last x y names true same is i more = (is ∙ ap Some (sym ((bytes_eq-Decides last y).0 same)), tt)
up_to_at parents last x y names false same is here more =
    let bad : true ≡ false = sym (nat_list_eq_equiv.refl last) ∙ same in cc
up_to_at parents last x y names false same is (there i) more = (is, more i)

up_to_step : (parents : Parents) (last : Name) (n : ℕ) (x : Name) (next : Option Name) → parents x ≡ next
    → ((y : Name) → In last (ancestors parents n y) → LeadTo parents last (y ∷ until last (ancestors parents n y)))
    → In last (unwrap_or (option_map (λ y. y ∷ ancestors parents n y) next) [])
    → LeadTo parents last (x ∷ until last (unwrap_or (option_map (λ y. y ∷ ancestors parents n y) next) []))
up_to_step parents last n x None is more i = elim i [ ]
up_to_step parents last n x (Some y) is more i =
    up_to_at parents last x y (ancestors parents n y) (bytes_eq last y) refl is i (more y)

up_to : (parents : Parents) (last : Name) (n : ℕ) (x : Name) → In last (ancestors parents n x)
    → LeadTo parents last (x ∷ until last (ancestors parents n x))
up_to parents last zero x i = elim i [ ]
up_to parents last (suc n) x i = up_to_step parents last n x (parents x) refl (λ y j. up_to parents last n y j) i

-- a way to a name is that of the ancestors before it
pub record IsUpTo (parents : Parents) (last x : Name) (n : ℕ) (names : List Name) : Type 0 where
  pub comes : In last (ancestors parents n x)
  pub is : until last (ancestors parents n x) ≡ names

is_up_to : (parents : Parents) (last x : Name) (n : ℕ) (names : List Name) → LeadTo parents last (x ∷ names)
    → (In last names → ⊥) → length names + 1 ≤ n → IsUpTo parents last x n names
is_up_to parents last x zero names leads out room = absurd (omega arith)
is_up_to parents last x (suc n) [] leads out room =
    let all = ancestors_some parents n x last leads.0 in record {
      comes = let P : List Name → Type 0 = In last in subst P (sym all) here;
      is = rw (all, nat_list_eq_equiv.refl last) refl;
    }
is_up_to parents last x (suc n) (y ∷ ys) leads out room =
    let all = ancestors_some parents n x y leads.0 in
    let rest = is_up_to parents last y n ys leads.1 (λ i. out (there i)) (omega arith) in
    let apart : bytes_eq last y ≡ false = not_here last y (λ e. out (here_at last y ys e)) in record {
      comes = let P : List Name → Type 0 = In last in subst P (sym all) (there rest.comes);
      is = rw (all, apart) (ap (λ l. y ∷ l) rest.is);
    }

-- tests of each name
all_pass : (test : Name → Bool) (names : List Name) → list_all test names ≡ true
    → AllByRecursion (λ name. test name ≡ true) names
all_pass test [] is = tt
all_pass test (x ∷ xs) is = let p = and_parts (test x) (list_all test xs) is in (p.0, all_pass test xs p.1)

pass_all : (test : Name → Bool) (names : List Name) → AllByRecursion (λ name. test name ≡ true) names
    → list_all test names ≡ true
pass_all test [] all = refl
pass_all test (x ∷ xs) all = and_from (test x) (list_all test xs) all.0 (pass_all test xs all.1)

all_plain : (names : List Name) → AllByRecursion (λ name. not (is_base name) ≡ true) names
    → AllByRecursion (λ name. is_base name ≡ false) names
all_plain [] all = tt
all_plain (x ∷ xs) all = (not-true (is_base x) all.0, all_plain xs all.1)

plain_all : (names : List Name) → AllByRecursion (λ name. is_base name ≡ false) names
    → AllByRecursion (λ name. not (is_base name) ≡ true) names
plain_all [] all = tt
plain_all (x ∷ xs) all = (not_from_false (is_base x) all.0, plain_all xs all.1)

-- the test of a cycle, and the other half of being one
record IsPlainFrom (least : Name) (others : List Name) : Type 0 where
  several : others ≢ []
  plain : AllByRecursion (λ name. is_base name ≡ false) (least ∷ others)
  lowest : AllByRecursion (λ name. precedes least name ≡ true) others

plain_from : (least : Name) (others : List Name) → is_cycle least others ≡ true → IsPlainFrom least others
plain_from least [] is = cc
plain_from least (x ∷ xs) is =
    let p = and_parts (list_all (λ name. not (is_base name)) (least ∷ x ∷ xs))
    (list_all (precedes least) (x ∷ xs)) is in record {
      several = λ none. cc;
      plain = all_plain (least ∷ x ∷ xs) (all_pass (λ name. not (is_base name)) (least ∷ x ∷ xs) p.0);
      lowest = all_pass (precedes least) (x ∷ xs) p.1;
    }

from_plain : (least : Name) (others : List Name) → IsPlainFrom least others → is_cycle least others ≡ true
from_plain least [] p = absurd (p.several refl)
from_plain least (x ∷ xs) p = and_from _ _
    (pass_all (λ name. not (is_base name)) (least ∷ x ∷ xs) (plain_all (least ∷ x ∷ xs) p.plain))
    (pass_all (precedes least) (x ∷ xs) p.lowest)

-- What is counted from a name is a cycle from it.
pub record IsCounted (parents : Parents) (name : Name) (cycle : List Name) : Type 0 where
  pub others : List Name
  pub begins : cycle ≡ name ∷ others
  pub is : IsCycleFrom parents name others

counted_in : (parents : Parents) (n : ℕ) (name : Name) (cycle : List Name) (test : Bool)
    → (is_member bytes_eq (ancestors parents n name) name
    && is_cycle name (before_first (bytes_eq name) (ancestors parents n name))) ≡ test
    → cond test (Some (name ∷ before_first (bytes_eq name) (ancestors parents n name))) None ≡ Some cycle
    → IsCounted parents name cycle
counted_in parents n name cycle false is e = cc
counted_in parents n name cycle true is e = record {
  others = others;
  begins = let f : name ∷ before_first (bytes_eq name) all ≡ cycle = cc in
      sym f ∙ ap (λ l. name ∷ l) (is_until name all);
  is = record {
    several = plain.several;
    distinct = lead_distinct parents name name others around (until_out name all);
    plain = plain.plain;
    around = around;
    lowest = plain.lowest;
  };
}
  where
    all : List Name
    all = ancestors parents n name

    others : List Name
    others = until name all

    parts : (is_member bytes_eq all name ≡ true) × (is_cycle name (before_first (bytes_eq name) all) ≡ true)
    parts = and_parts (is_member bytes_eq all name) (is_cycle name (before_first (bytes_eq name) all)) is

    around : LeadTo parents name (name ∷ others)
    around = up_to parents name n name (in_member name all parts.0)

    plain : IsPlainFrom name others
    plain = plain_from name others (ap (is_cycle name) (sym (is_until name all)) ∙ parts.1)

pub cycle_counted : (parents : Parents) (n : ℕ) (name : Name) (cycle : List Name)
    → cycle_from parents n name ≡ Some cycle → IsCounted parents name cycle
cycle_counted parents n name cycle e = counted_in parents n name cycle _ refl e

-- each cycle is counted, in as many steps as it has names
pub counted_cycle : (parents : Parents) (n : ℕ) (least : Name) (others : List Name)
    → IsCycleFrom parents least others → length others + 1 ≤ n → cycle_from parents n least ≡ Some (least ∷ others)
counted_cycle parents n least others cycle room =
    let u = is_up_to parents least least n others cycle.around (distinct_head least others cycle.distinct) room in
    let same : before_first (bytes_eq least) (ancestors parents n least) ≡ others =
    is_until least (ancestors parents n least) ∙ u.is in
    let comes : is_member bytes_eq (ancestors parents n least) least ≡ true =
    member_in least (ancestors parents n least) u.comes in
    let passes : is_cycle least others ≡ true =
    from_plain least others (record { several = cycle.several; plain = cycle.plain; lowest = cycle.lowest }) in
    rw (same, comes, passes) refl
