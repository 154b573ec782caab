-- The names that count for a profile are all different.
use Rattle.std.proofs.Common.{inl, inr, ◌≡◌, ◌∙◌, List, [], ◌∷◌, refl, sym}
use Rattle.std.specs.List.{IsDistinct}
use Rattle.std.specs.Str.{bytes_eq}
use Rattle.nextest_inheritance.specs.Names.{Name, default_name}
use Rattle.nextest_inheritance.specs.Parents.{Parents, parent_or_default, LeadToDefault, with_default}
use Rattle.nextest_inheritance.proofs.Chains.{lead_default_distinct}
use Rattle.nextest_inheritance.proofs.Members.{In, here, there, in_either, distinct_head, distinct_cons}

only_one : (x y : Name) → In x (y ∷ []) → x ≡ y
only_one x y here = refl
only_one x y (there i) = elim i [ ]

-- names that lead to `default`, and `default` after them, come once
pub all_different : (parents : Parents) (name : Name) (chain : List Name) → LeadToDefault parents name chain
    → IsDistinct bytes_eq (with_default chain)
unfolding IsDistinct
all_different parents name [] leads = distinct_cons default_name [] (λ i. elim i [ ]) tt
all_different parents name (x ∷ xs) leads =
    distinct_cons x (with_default xs) nowhere (all_different parents (parent_or_default parents name) xs leads.2)
  where
    nowhere : In x (with_default xs) → ⊥
    nowhere i = elim (in_either x xs (default_name ∷ []) i) [
      | inl j ↦ distinct_head x xs (lead_default_distinct parents name (x ∷ xs) leads) j
      | inr j ↦ leads.1 (sym leads.0 ∙ only_one x default_name j)
    ]
