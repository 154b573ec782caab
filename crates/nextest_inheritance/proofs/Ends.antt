-- Following parents comes to an end, or into a way that comes back.
use Rattle.std.proofs.Common.{◌≡◌, ◌⊎◌, inl, inr, ℕ, zero, suc, ◌+◌, ◌≤◌, List, [], ◌∷◌, ◌++◌, length, Option, None, Some, refl, sym, subst, arith, length-append}
use Rattle.std.specs.List.{IsDistinct}
use Rattle.std.specs.Str.{bytes_eq}
use Rattle.std.proofs.lemmas.Bool.{false_from_ne_true}
use Rattle.std.proofs.lemmas.Cmp.{nat_list_eq_equiv}
use Rattle.std.proofs.lemmas.Map.Keys.{IsDistinct-push}
use Rattle.std.proofs.lemmas.Map.Made.{length-le_from_is_member}
use Rattle.std.specs.Set.{is_member}
use Rattle.nextest_inheritance.specs.Names.{Name}
use Rattle.nextest_inheritance.specs.Parents.{Parents}
use Rattle.nextest_inheritance.specs.Cycles.{first_or, LeadTo}
use Rattle.nextest_inheritance.proofs.Members.{In, here, there, split_at, in_or_not, in_member, member_in, distinct_cons}
use Rattle.nextest_inheritance.proofs.Trails.{IsRing, lead_push, lead_parent, ring_of}

-- a walk from a name up to one without a parent
pub data Ends (parents : Parents) : Name → Type 0 where
  ends : {name : Name} → parents name ≡ None → Ends parents name
  goes : {name parent : Name} → parents name ≡ Some parent → Ends parents parent → Ends parents name

-- A way from a name to one that comes back.
pub record Returns (parents : Parents) (name : Name) : Type 0 where
  pub first : Name
  pub others : List Name
  pub ring : IsRing parents first others
  pub way : List Name
  pub from : first_or first way ≡ name
  pub leads : LeadTo parents first way

-- only these names have parents
abbrev pub AreKeys : Parents → List Name → Type 0
AreKeys parents keys = (name parent : Name) → parents name ≡ Some parent → In name keys

-- names that have parents, none twice, are no more than the keys
pub as_many : (parents : Parents) (keys : List Name) → AreKeys parents keys → (names : List Name)
    → IsDistinct bytes_eq names
    → ((name : Name) → In name names → (parent : Name) × (parents name ≡ Some parent)) → length names ≤ length keys
as_many parents keys are names distinct have =
    length-le_from_is_member nat_list_eq_equiv names keys distinct
    (λ name m. let h = have name (in_member name names m) in member_in name keys (are name h.0 h.1))

-- one name more, that is none of them
pub distinct_push : (xs : List Name) (x : Name) → IsDistinct bytes_eq xs → (In x xs → ⊥)
    → IsDistinct bytes_eq (xs ++ x ∷ [])
distinct_push xs x distinct out =
    IsDistinct-push nat_list_eq_equiv xs x distinct
    (false_from_ne_true (is_member bytes_eq xs x) (λ m. out (in_member x xs m)))

abbrev Outcome : Parents → Name → Type 0
Outcome parents name = Ends parents name ⊎ Returns parents name

one_before : (parents : Parents) (name parent : Name) → parents name ≡ Some parent → Outcome parents parent
    → Outcome parents name
one_before parents name parent is (inl e) = inl (goes is e)
one_before parents name parent is (inr r) =
    inr (record {
      first = r.first;
      others = r.others;
      ring = r.ring;
      way = name ∷ r.way;
      from = refl;
      leads = (let P : Name → Type 0 = λ v. parents name ≡ Some v in subst P (sym r.from) is, r.leads);
    })

came_back : (parents : Parents) (seen : List Name) (name : Name) → LeadTo parents name seen
    → IsDistinct bytes_eq seen → In name seen → Outcome parents name
came_back parents seen name leads distinct i =
    let s = split_at name seen i in
    inr (record {
      first = name;
      others = s.back;
      ring = ring_of parents name seen s.front s.back leads distinct s.is;
      way = [];
      from = refl;
      leads = tt;
    })

too_many : (parents : Parents) (keys : List Name) → AreKeys parents keys
    → (seen : List Name) (name parent : Name) → LeadTo parents name seen → IsDistinct bytes_eq seen
    → parents name ≡ Some parent → (In name seen → ⊥) → length keys ≤ length seen → ⊥
too_many parents keys are seen name parent leads distinct is out room =
    let many = as_many parents keys are (name ∷ seen) (distinct_cons name seen out distinct) (λ x i. have x i) in
    omega (arith, many)
  where
    have : (x : Name) → In x (name ∷ seen) → (p : Name) × (parents x ≡ Some p)
    have x here = (parent, is)
    have x (there i) = lead_parent parents name seen x leads i

step : (parents : Parents) (seen : List Name) (name : Name) (next : Option Name) → parents name ≡ next
    → LeadTo parents name seen → IsDistinct bytes_eq seen
    → ((parent : Name) → parents name ≡ Some parent → (In name seen → ⊥) → Outcome parents parent)
    → Outcome parents name
step parents seen name None is leads distinct more = inl (ends is)
step parents seen name (Some parent) is leads distinct more =
    elim (in_or_not name seen) [
      | inl i ↦ came_back parents seen name leads distinct i
      | inr out ↦ one_before parents name parent is (more parent is out)
    ]

explore : (parents : Parents) (keys : List Name) → AreKeys parents keys
    → (fuel : ℕ) (seen : List Name) (name : Name) → LeadTo parents name seen → IsDistinct bytes_eq seen
    → length keys ≤ fuel + length seen → Outcome parents name
explore parents keys are zero seen name leads distinct room =
    step parents seen name (parents name) refl leads distinct
    (λ parent is out. absurd (too_many parents keys are seen name parent leads distinct is out (omega arith)))
explore parents keys are (suc fuel) seen name leads distinct room =
    step parents seen name (parents name) refl leads distinct (λ parent is out.
    explore parents keys are fuel (seen ++ name ∷ []) parent (lead_push parents name seen parent leads is)
    (distinct_push seen name distinct out)
    (omega (arith, length-append seen (name ∷ []))))

-- each name leads to an end, or into a way that comes back
pub ends_or_returns : (parents : Parents) (keys : List Name) → AreKeys parents keys → (name : Name)
    → Ends parents name ⊎ Returns parents name
unfolding IsDistinct
ends_or_returns parents keys are name = explore parents keys are (length keys) [] name tt tt (omega arith)
