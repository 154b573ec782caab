-- Names that lead to a last one, by any function from a name to its parent.
use Rattle.std.proofs.Common.{◌≡◌, ◌⊎◌, inl, inr, List, [], ◌∷◌, ◌++◌, Some, refl, sym, ap, ◌∙◌, subst}
use Rattle.std.specs.List.{IsDistinct}
use Rattle.std.specs.Str.{bytes_eq}
use Rattle.nextest_inheritance.specs.Names.{Name}
use Rattle.nextest_inheritance.specs.Parents.{Parents}
use Rattle.nextest_inheritance.specs.Cycles.{first_or, LeadTo}
use Rattle.nextest_inheritance.proofs.Members.{In, here, there, here_at, distinct_tail}

pub first_or-append : (last : Name) (xs ys : List Name) → first_or last (xs ++ ys) ≡ first_or (first_or last ys) xs
first_or-append last [] ys = refl
first_or-append last (x ∷ xs) ys = refl

-- the front of names leads to the first of the back
pub lead_front : (parents : Parents) (last : Name) (xs ys : List Name) → LeadTo parents last (xs ++ ys)
    → LeadTo parents (first_or last ys) xs
lead_front parents last [] ys leads = tt
lead_front parents last (x ∷ xs) ys leads =
    (leads.0 ∙ ap Some (first_or-append last xs ys), lead_front parents last xs ys leads.1)

pub lead_back : (parents : Parents) (last : Name) (xs ys : List Name) → LeadTo parents last (xs ++ ys)
    → LeadTo parents last ys
lead_back parents last [] ys leads = leads
lead_back parents last (x ∷ xs) ys leads = lead_back parents last xs ys leads.1

-- names that lead to the first of others, and then these
pub lead_append : (parents : Parents) (last : Name) (xs ys : List Name) → LeadTo parents (first_or last ys) xs
    → LeadTo parents last ys → LeadTo parents last (xs ++ ys)
lead_append parents last [] ys front back = back
lead_append parents last (x ∷ xs) ys front back =
    (front.0 ∙ ap Some (sym (first_or-append last xs ys)), lead_append parents last xs ys front.1 back)

-- one name more
pub lead_push : (parents : Parents) (last : Name) (xs : List Name) (next : Name) → LeadTo parents last xs
    → parents last ≡ Some next → LeadTo parents next (xs ++ last ∷ [])
lead_push parents last xs next leads is = lead_append parents next xs (last ∷ []) leads (is, tt)

-- what follows a name of the way is in the way, or the last
pub lead_next : (parents : Parents) (last : Name) (xs : List Name) (x next : Name) → LeadTo parents last xs
    → In x xs → parents x ≡ Some next → In next xs ⊎ (next ≡ last)
lead_next parents last [] x next leads i is = elim i [ ]
lead_next parents last (y ∷ []) x next leads here is =
    inr (let e : Some next ≡ Some last = sym is ∙ leads.0 in let f : next ≡ last = cc in f)
lead_next parents last (y ∷ z ∷ xs) x next leads here is =
    inl (there (here_at next z xs (let e : Some next ≡ Some z = sym is ∙ leads.0 in let f : next ≡ z = cc in f)))
lead_next parents last (y ∷ xs) x next leads (there i) is =
    elim (lead_next parents last xs x next leads.1 i is) [ inl j ↦ inl (there j) | inr e ↦ inr e ]

-- each name of the way has a parent
pub lead_parent : (parents : Parents) (last : Name) (xs : List Name) (x : Name) → LeadTo parents last xs
    → In x xs → (next : Name) × (parents x ≡ Some next)
lead_parent parents last [] x leads i = elim i [ ]
lead_parent parents last (y ∷ xs) x leads here = (first_or last xs, leads.0)
lead_parent parents last (y ∷ xs) x leads (there i) = lead_parent parents last xs x leads.1 i

-- a list to which the parents of its names belong holds all to which its names lead
pub lead_within : (parents : Parents) (names : List Name)
    → ((x next : Name) → In x names → parents x ≡ Some next → In next names)
    → (last : Name) (way : List Name) → LeadTo parents last way → In (first_or last way) names → In last names
lead_within parents names closed last [] leads within = within
lead_within parents names closed last (x ∷ way) leads within =
    lead_within parents names closed last way leads.1 (closed x (first_or last way) within leads.0)

-- from a name on there is one way at most that comes to the last for the first time
pub lead_one : (parents : Parents) (last x : Name) (xs ys : List Name) → LeadTo parents last (x ∷ xs)
    → LeadTo parents last (x ∷ ys) → (In last xs → ⊥) → (In last ys → ⊥) → xs ≡ ys
lead_one parents last x [] [] one other out away = refl
lead_one parents last x [] (y ∷ ys) one other out away =
    let e : Some last ≡ Some y = sym one.0 ∙ other.0 in absurd (away (here_at last y ys (let f : last ≡ y = cc in f)))
lead_one parents last x (y ∷ xs) [] one other out away =
    let e : Some last ≡ Some y = sym other.0 ∙ one.0 in absurd (out (here_at last y xs (let f : last ≡ y = cc in f)))
lead_one parents last x (y ∷ xs) (z ∷ ys) one other out away =
    let e : Some y ≡ Some z = sym one.0 ∙ other.0 in
    let same : y ≡ z = cc in
    let P : Name → Type 0 = λ v. LeadTo parents last (v ∷ xs) in
    let rest = lead_one parents last z xs ys (subst P same one.1) other.1 (λ i. out (there i)) (λ i. away (there i)) in
    ap (λ l. y ∷ l) rest ∙ ap (λ v. v ∷ ys) same

-- A way that comes back to its first name, none twice.
pub record IsRing (parents : Parents) (first : Name) (others : List Name) : Type 0 where
  pub around : LeadTo parents first (first ∷ others)
  pub distinct : IsDistinct bytes_eq (first ∷ others)

-- a way that comes to one of its own names goes round from there
pub ring_of : (parents : Parents) (last : Name) (path front back : List Name) → LeadTo parents last path
    → IsDistinct bytes_eq path → path ≡ front ++ last ∷ back → IsRing parents last back
ring_of parents last path front back leads distinct is = record {
  around = lead_back parents last front (last ∷ back)
      (let P : List Name → Type 0 = LeadTo parents last in subst P is leads);
  distinct = distinct_back front (last ∷ back)
      (let P : List Name → Type 0 = IsDistinct bytes_eq in subst P is distinct);
}
  where
    distinct_back : (xs ys : List Name) → IsDistinct bytes_eq (xs ++ ys) → IsDistinct bytes_eq ys
    distinct_back [] ys distinct = distinct
    distinct_back (x ∷ xs) ys distinct = distinct_back xs ys (distinct_tail x (xs ++ ys) distinct)
