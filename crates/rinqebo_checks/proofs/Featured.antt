-- Features that are among others.
use Rattle.std.proofs.Common.{◌≡◌, ◌||◌, List, [], ◌∷◌, Bool, true, false, Ordering, Less, Equal, Greater, refl, ap, ◌∙◌}
use Rattle.std.specs.BTreeSet.{BTreeSet, insert_key}
use Rattle.std.specs.List.{list_any}
use Rattle.std.specs.Ordering.{match_ordering}
use Rattle.nextest_elements.specs.declared.experimental.ConfigExperimental.{ConfigExperimental}
use Rattle.nextest_rules.specs.Definitions.{Features}
use Rattle.nextest_rules.specs.KnownView.{features_view, is_feature}
use Rattle.rinqebo_checks.specs.Rounds.{AreAmong}

or_right : (a b : Bool) → b ≡ true → (a || b) ≡ true
or_right true b is = refl
or_right false b is = is

or_then : (a b c : Bool) → (b ≡ true → c ≡ true) → (a || b) ≡ true → (a || c) ≡ true
or_then true b c next is = refl
or_then false b c next is = next is

module _ {K : Type 0} (cmp : K → K → Ordering) (p : K → Bool) (k : K) where
  kept_at : (o : Ordering) (x : K) (xs : List K)
      → (list_any p xs ≡ true → list_any p (insert_key cmp xs k) ≡ true) → list_any p (x ∷ xs) ≡ true
      → list_any p (match_ordering o (k ∷ x ∷ xs) (x ∷ xs) (x ∷ insert_key cmp xs k)) ≡ true
  kept_at Less x xs next is = or_right (p k) (list_any p (x ∷ xs)) is
  kept_at Equal x xs next is = is
  kept_at Greater x xs next is = or_then (p x) (list_any p xs) (list_any p (insert_key cmp xs k)) next is

  -- one key more leaves what passes
  kept : (xs : List K) → list_any p xs ≡ true → list_any p (insert_key cmp xs k) ≡ true
  kept [] is = or_right (p k) false is
  kept (x ∷ xs) is = kept_at (cmp k x) x xs (kept xs) is

-- features are among their copies
pub among_copies : (features copies : BTreeSet ConfigExperimental) → copies.keys ≡ features.keys
    → AreAmong (features_view features) (features_view copies)
among_copies features copies same f is = ap (list_any (is_feature f)) same ∙ is

-- features are among others and one more
pub among_more : (cmp : ConfigExperimental → ConfigExperimental → Ordering) (k : ConfigExperimental)
    (some : Features) (before after : BTreeSet ConfigExperimental)
    → after.keys ≡ insert_key cmp before.keys k → AreAmong some (features_view before)
    → AreAmong some (features_view after)
among_more cmp k some before after keys are f is =
    ap (list_any (is_feature f)) keys ∙ kept cmp (is_feature f) k before.keys (are f is)
