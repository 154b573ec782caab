-- Chains of names.
use Rattle.std.proofs.Common.{◌≡◌, inl, inr, ℕ, ◌≤◌, List, [], ◌∷◌, length, None, Some, refl, sym, ap, ◌∙◌, subst, arith}
use Rattle.std.specs.List.{IsDistinct}
use Rattle.std.specs.Option.{unwrap_or}
use Rattle.std.specs.Str.{bytes_eq}
use Rattle.nextest_inheritance.specs.Names.{Name, default_name}
use Rattle.nextest_inheritance.specs.Parents.{Parents, parent_or_default, LeadToDefault, IsChain}
use Rattle.nextest_inheritance.specs.Cycles.{first_or, LeadTo}
use Rattle.nextest_inheritance.proofs.Members.{In, here, there, same_name, distinct_cons}
use Rattle.nextest_inheritance.proofs.Ends.{Ends, ends, goes}

parent_at : (parents : Parents) (name parent : Name) → parents name ≡ Some parent
    → parent_or_default parents name ≡ parent
parent_at parents name parent is = ap (λ o. unwrap_or o default_name) is

no_parent_at : (parents : Parents) (name : Name) → parents name ≡ None → parent_or_default parents name ≡ default_name
no_parent_at parents name is = ap (λ o. unwrap_or o default_name) is

-- one chain at most
pub lead_default_one : (parents : Parents) (name : Name) (xs ys : List Name) → LeadToDefault parents name xs
    → LeadToDefault parents name ys → xs ≡ ys
lead_default_one parents name [] [] one other = refl
lead_default_one parents name [] (y ∷ ys) one other = absurd (other.1 one)
lead_default_one parents name (x ∷ xs) [] one other = absurd (one.1 other)
lead_default_one parents name (x ∷ xs) (y ∷ ys) one other =
    let rest = lead_default_one parents (parent_or_default parents name) xs ys one.2 other.2 in
    ap (λ l. x ∷ l) rest ∙ ap (λ v. v ∷ ys) (one.0 ∙ sym other.0)

-- what a name of a chain leads to
record Later (parents : Parents) (name : Name) (most : ℕ) : Type 0 where
  names : List Name
  leads : LeadToDefault parents name names
  short : length names ≤ most

later : (parents : Parents) (name other : Name) (xs : List Name) → LeadToDefault parents name xs → In other xs
    → Later parents other (length xs)
later parents name other [] leads i = elim i [ ]
later parents name other (x ∷ xs) leads here =
    let P : Name → Type 0 = λ v. LeadToDefault parents v (x ∷ xs) in
    record { names = x ∷ xs; leads = subst P (sym leads.0) leads; short = omega arith }
later parents name other (x ∷ xs) leads (there i) =
    let l = later parents (parent_or_default parents name) other xs leads.2 i in
    record { names = l.names; leads = l.leads; short = omega (arith, l.short) }

-- names that lead to `default` come once
pub lead_default_distinct : (parents : Parents) (name : Name) (xs : List Name) → LeadToDefault parents name xs
    → IsDistinct bytes_eq xs
unfolding IsDistinct
lead_default_distinct parents name [] leads = tt
lead_default_distinct parents name (x ∷ xs) leads =
    distinct_cons x xs (λ i. again i) (lead_default_distinct parents (parent_or_default parents name) xs leads.2)
  where
    again : In x xs → ⊥
    again i =
        let l = later parents (parent_or_default parents name) x xs leads.2 i in
        let P : Name → Type 0 = λ v. LeadToDefault parents v (x ∷ xs) in
        let same = lead_default_one parents x l.names (x ∷ xs) l.leads (subst P (sym leads.0) leads) in
        absurd (omega (arith, l.short, ap length same))

-- a name from which parents come to an end has names that lead to `default`
pub chain_from_end : (parents : Parents) (name : Name) → Ends parents name
    → (chain : List Name) × LeadToDefault parents name chain
chain_from_end parents name e = elim (same_name name default_name) [
  | inl same ↦ ([], same)
  | inr other ↦ longer parents name other e
]
  where
    longer : (parents : Parents) (name : Name) → (name ≡ default_name → ⊥) → Ends parents name
        → (chain : List Name) × LeadToDefault parents name chain
    longer parents name other (ends is) = (name ∷ [], (refl, other, no_parent_at parents name is))
    longer parents name other (goes {parent = parent} is e) =
        let P : Name → Type 0 = λ v. (chain : List Name) × LeadToDefault parents v chain in
        let rest = subst P (sym (parent_at parents name parent is)) (elim (same_name parent default_name) [
          | inl same ↦ ([], same)
          | inr apart ↦ longer parents parent apart e
        ]) in
        (name ∷ rest.0, (refl, other, rest.1))

pub is_chain : (parents : Parents) (name : Name) (chain : List Name) → LeadToDefault parents name chain
    → IsChain parents name chain
is_chain parents name chain leads = record { leads = leads; distinct = lead_default_distinct parents name chain leads }

-- a name whose parents never end has no names that lead to `default`
pub never_default : (parents : Parents) → parents default_name ≡ None → (names : List Name)
    → ((name : Name) → In name names → (parent : Name) × (parents name ≡ Some parent) × In parent names)
    → (name : Name) (chain : List Name) → LeadToDefault parents name chain → In name names → ⊥
never_default parents root names on name [] leads i =
    let o = on name i in
    let e : Some o.0 ≡ None = sym o.1 ∙ ap parents leads ∙ root in cc
never_default parents root names on name (x ∷ xs) leads i =
    let o = on name i in
    let P : Name → Type 0 = λ v. LeadToDefault parents v xs in
    never_default parents root names on o.0 xs (subst P (parent_at parents name o.0 o.1) leads.2) o.2

-- where a name leads to another, its chain goes on from there
pub lead_on : (parents : Parents) → parents default_name ≡ None → (last : Name) (way : List Name)
    → LeadTo parents last way
    → (chain : List Name) → LeadToDefault parents (first_or last way) chain
    → (rest : List Name) × LeadToDefault parents last rest
lead_on parents root last [] leads chain to = (chain, to)
lead_on parents root last (x ∷ way) leads [] to =
    let e : Some (first_or last way) ≡ None = sym leads.0 ∙ ap parents to ∙ root in cc
lead_on parents root last (x ∷ way) leads (y ∷ ys) to =
    let P : Name → Type 0 = λ v. LeadToDefault parents v ys in
    lead_on parents root last way leads.1 ys (subst P (parent_at parents x (first_or last way) leads.0) to.2)
