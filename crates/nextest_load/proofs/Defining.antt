-- Ids that are in tables, one table behind another, are in the order of their definitions.
use Rattle.std.proofs.Common.{◌≡◌, inl, inr, ℕ, List, [], ◌∷◌, ◌++◌, ◌||◌, Bool, true, false, refl, sym, ap, subst, ◌∙◌, append_assoc}
use Rattle.std.specs.List.{AllByRecursion}
use Rattle.std.specs.Str.{bytes_eq}
use Rattle.std.proofs.lemmas.Bool.{cases_Bool, or_cases, not-true, and_parts, true≢false}
use Rattle.std.proofs.lemmas.List.{map-append}
use Rattle.std.proofs.lemmas.Slice.Eq.{bytes_eq-Decides}
use Rattle.nextest_documents.specs.Shown.{Path}
use Rattle.nextest_places.specs.Order.{AllBefore, IsBefore, IsOrder}
use Rattle.nextest_places.specs.Standing.{is_among, stands_in}
use Rattle.nextest_tree.specs.Schema.{is_one_of}
use Rattle.nextest_sources.specs.Inputs.{SourceText}
use Rattle.nextest_tables.specs.Written.{Name}
use Rattle.nextest_load.specs.ScriptNames.{AreIdsOf, comes_first, AllComeFirst}
use Rattle.nextest_load.specs.Scripts.{Section, sections_at, IsDefinedBefore, AllDefinedBefore}
use Rattle.nextest_load.proofs.NamesInOrder.{all_map, first_in_front, first_in_either, first_is_there}

same_tests : (a b : Bool) → (a ≡ true → b ≡ true) → (b ≡ true → a ≡ true) → a ≡ b
same_tests true b f g = sym (f refl)
same_tests false true f g = g refl
same_tests false false f g = refl

pub turned : (a b : Name) → bytes_eq a b ≡ bytes_eq b a
turned a b =
    same_tests (bytes_eq a b) (bytes_eq b a) (λ h. (bytes_eq-Decides b a).1 (sym ((bytes_eq-Decides a b).0 h)))
    (λ h. (bytes_eq-Decides a b).1 (sym ((bytes_eq-Decides b a).0 h)))

-- two ways to say that an id is among others
pub among_is : (ids : List Name) (id : Name) → is_among ids id ≡ is_one_of ids id
among_is [] id = refl
among_is (x ∷ ids) id = λ i. turned id x i || among_is ids id i

-- an id of an order is in its table, and no other
pub stands_is : (path : Path) (text : List ℕ) (ids : List Name) → IsOrder path text ids → (id : Name)
    → is_one_of ids id ≡ stands_in path text id
stands_is path text ids order id = sym (among_is ids id) ∙ order.exact id

one_before : (path : Path) (text : List ℕ) (a : Name) (ids : List Name) (b : Name)
    → AllByRecursion (IsBefore path text a) ids → is_one_of ids b ≡ true → IsBefore path text a b
one_before path text a [] b h k = absurd (true≢false (sym k))
one_before path text a (x ∷ ids) b h k =
    elim (or_cases (bytes_eq x b) (is_one_of ids b) k) [
      | inl here ↦ subst (IsBefore path text a) ((bytes_eq-Decides x b).0 here) h.0
      | inr after ↦ one_before path text a ids b h.1 after
    ]

-- of two ids of an order, the first is before the other
before_in_order : (path : Path) (text : List ℕ) (ids : List Name) (a b : Name) → AllBefore path text ids
    → comes_first ids a b ≡ true → is_one_of ids b ≡ true → IsBefore path text a b
before_in_order path text [] a b h first k = absurd (true≢false (sym k))
before_in_order path text (x ∷ ids) a b h first k =
    let parts = and_parts _ (bytes_eq x a || comes_first ids a b) first in
    let after : is_one_of ids b ≡ true = elim (or_cases (bytes_eq x b) (is_one_of ids b) k) [
      | inl here ↦ absurd (true≢false (sym here ∙ not-true (bytes_eq x b) parts.0))
      | inr more ↦ more
    ]
    in
    elim (or_cases (bytes_eq x a) (comes_first ids a b) parts.1) [
      | inl here ↦
          let is : x ≡ a = (bytes_eq-Decides x a).0 here in
          one_before path text a ids b (subst (λ (c : Name). AllByRecursion (IsBefore path text c) ids) is h.0) after
      | inr more ↦ before_in_order path text ids a b h.1 more after
    ]

-- the first of two names of tables is defined before the other
defined_before : (sections : List Section) (names : List Name) (a b : Name) → AreIdsOf sections names
    → comes_first names a b ≡ true → IsDefinedBefore sections a b
defined_before [] names a b none first = absurd (true≢false (sym first ∙ ap (λ ns. comes_first ns a b) none))
defined_before (s ∷ sections) names a b (own, more, is, order, rest) h =
    let first : comes_first (own ++ more) a b ≡ true = ap (λ ns. comes_first ns a b) (sym is) ∙ h in
    let stands = stands_is s.path s.text own order in
    elim (cases_Bool (is_one_of own b)) [
      | inl there ↦
          let in_own = first_in_front own more a b first there in
          record {
            earlier = [];
            section = s;
            later = sections;
            splits = refl;
            there = sym (stands a) ∙ first_is_there own a b in_own;
            nowhere_earlier = tt;
            behind = inr (before_in_order s.path s.text own a b order.ordered in_own there);
          }
      | inr elsewhere ↦ elim (first_in_either own more a b first) [
        | inl there ↦ record {
          earlier = [];
          section = s;
          later = sections;
          splits = refl;
          there = sym (stands a) ∙ there;
          nowhere_earlier = tt;
          behind = inl (sym (stands b) ∙ elsewhere);
        }
        | inr after ↦
            let found = defined_before sections more a b rest after in
            record {
              earlier = s ∷ found.earlier;
              section = found.section;
              later = found.later;
              splits = ap (λ ss. s ∷ ss) found.splits;
              there = found.there;
              nowhere_earlier = (sym (stands b) ∙ elsewhere, found.nowhere_earlier);
              behind = found.behind;
            }
      ]
    ]

-- so it is for all ids that are in the order of names
pub all_defined_before : (sections : List Section) (names ids : List Name) → AreIdsOf sections names
    → AllComeFirst names ids → AllDefinedBefore sections ids
all_defined_before sections names [] are h = h
all_defined_before sections names (id ∷ ids) are h = (
  all_map (λ other first. defined_before sections names id other are first) ids h.0,
  all_defined_before
      sections names ids are h.1,
)

-- the ids of some tables, and then of others
pub ids_of_both : (some others : List Section) (names more : List Name) → AreIdsOf some names
    → AreIdsOf others more → AreIdsOf (some ++ others) (names ++ more)
ids_of_both [] others names more none are = subst (AreIdsOf others) (ap (λ ns. ns ++ more) (sym none)) are
ids_of_both (s ∷ some) others names more (own, rest, is, order, after) are = (
  own,
  rest ++ more,
  ap (λ ns. ns ++ more) is
      ∙ append_assoc own rest more,
  order,
  ids_of_both some others rest more after are,
)

-- the ids of one table more
pub ids_with_last : (path : Path) (ss : List SourceText) (s : SourceText) (names own : List Name)
    → AreIdsOf (sections_at path ss) names → IsOrder path s.text own
    → AreIdsOf (sections_at path (ss ++ s ∷ [])) (names ++ own)
ids_with_last path ss s names own are order =
    let one = λ (t : SourceText). let section : Section = record { path = path; text = t.text } in section in
    let last : AreIdsOf (sections_at path (s ∷ [])) own = (own, [], sym (nil_last own), order, refl) in
    subst (λ (sections : List Section). AreIdsOf sections (names ++ own)) (sym (map-append one ss (s ∷ [])))
    (ids_of_both (sections_at path ss) (sections_at path (s ∷ [])) names own are last)
  where
    nil_last : (xs : List Name) → xs ++ [] ≡ xs
    nil_last [] = refl
    nil_last (x ∷ xs) = ap (λ ys. x ∷ ys) (nil_last xs)
