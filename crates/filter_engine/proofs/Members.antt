-- The members that dependencies reach.
use Rattle.std.proofs.Common.{◌≡◌, ◌↔◌, ◌==◌, ◌&&◌, ◌||◌, ◌⊎◌, ℕ, zero, suc, Bool, true, false, List, [], ◌∷◌, Option, None, Some, IsTrue, Decides, refl, sym, ◌∙◌, ap, inl, inr, subst, arith}
use mathlib.Core.Path.{fun_ext}
use Rattle.std.specs.Prelude.{Contains}
use Rattle.std.specs.List.{list_any, slice_get}
use Rattle.std.specs.Str.{bytes_eq}
use Rattle.std.proofs.lemmas.Bool.Decides.{same_from_decides, eqb_tells}
use Rattle.std.proofs.lemmas.Slice.Eq.{bytes_eq-Decides}
use Rattle.filter_inputs.specs.declared.packages.edges.Edge.{Edge}
use Rattle.filter_inputs.specs.declared.packages.member_set.MemberSet.{MemberSet}
use Rattle.filter_inputs.specs.Packages.Edges.{DependsOn, Reaches, itself, onward}
use Rattle.filter_inputs.specs.Packages.Graph.{Graph, IsMemberNamed, IsMatched, IsDependency, IsDependent}
use Rattle.filter_inputs.specs.Packages.GraphView.{has_member}
use Rattle.filter_inputs.proofs.Reaching.{reaches_through}
use Rattle.filter_engine.specs.Members.{reaches, name_has, is_named, is_dependency, is_dependent}
use Rattle.filter_engine.specs.Truth.{IsMemberWith, IsInDeps, IsInRdeps}

both : (a b : Bool) → (a && b) ≡ true → (a ≡ true) × (b ≡ true)
both true b e = (refl, e)
both false b e = absurd (cc)

and_true : (a b : Bool) → a ≡ true → b ≡ true → (a && b) ≡ true
and_true a b p q = rw (p, q) refl

one_of : (a b : Bool) → (a || b) ≡ true → (a ≡ true) ⊎ (b ≡ true)
one_of true b e = inl refl
one_of false b e = inr e

or_left : (a b : Bool) → a ≡ true → (a || b) ≡ true
or_left a b e = rw e refl

or_right : (a b : Bool) → b ≡ true → (a || b) ≡ true
or_right true b e = refl
or_right false b e = e

same_place : (a b : ℕ) → (a == b) ≡ true → a ≡ b
same_place a b e = elim (eqb_tells a b)
    [ inl same ↦ same.1 | inr other ↦ absurd (let clash : false ≡ true = sym other.0 ∙ e in cc) ]

is_itself : (a : ℕ) → (a == a) ≡ true
is_itself a = elim (eqb_tells a a) [ inl same ↦ same.0 | inr other ↦ absurd (other.1 refl) ]

-- What is reached over some edges is reached with one more before them.
more_edges : (e : Edge) (edges : List Edge) {a b : ℕ} → Reaches edges a b → Reaches (e ∷ edges) a b
more_edges e edges (itself c) = itself c
more_edges e edges (onward x y z (k, below, is) rest) =
    onward x y z (suc k, omega (arith, below), is) (more_edges e edges rest)

is_reached : (edges : List Edge) (a b : ℕ) → reaches edges a b ≡ true → Reaches edges a b
is_reached [] a b e = let same : a ≡ b = same_place a b e in subst (λ (x : ℕ). Reaches [] a x) same (itself a)
is_reached (e ∷ edges) a b t =
    elim (one_of (reaches edges a b) (reaches edges a e.from && reaches edges e.to b) t) [
      | inl without ↦ more_edges e edges (is_reached edges a b without)
      | inr over ↦ (
          let it = both (reaches edges a e.from) (reaches edges e.to b) over in
          let first : DependsOn (e ∷ edges) e.from e.to = (0, omega arith, refl) in
          reaches_through (more_edges e edges (is_reached edges a e.from it.0))
          (onward e.from e.to b first (more_edges e edges (is_reached edges e.to b it.1)))
          )
    ]

reach_itself : (edges : List Edge) (a : ℕ) → reaches edges a a ≡ true
reach_itself [] a = is_itself a
reach_itself (e ∷ edges) a = or_left (reaches edges a a) _ (reach_itself edges a)

-- One more dependency in front of what is reached.
reach_onward : (edges : List Edge) (a b c : ℕ) → DependsOn edges a b → reaches edges b c ≡ true
    → reaches edges a c ≡ true
reach_onward [] a b c (k, below, is) t = absurd (omega (arith, below))
reach_onward (e ∷ edges) a b c (zero, below, is) t =
    let from : e.from ≡ a = ap (λ (x : Edge). x.from) is in
    let to : e.to ≡ b = ap (λ (x : Edge). x.to) is in
    let start : reaches edges a e.from ≡ true = rw from (reach_itself edges a) in
    elim (one_of (reaches edges b c) (reaches edges b e.from && reaches edges e.to c) t) [
      | inl without ↦ or_right (reaches edges a c) _ (and_true _ _ start (rw to without))
      | inr over ↦ or_right (reaches edges a c) _
          (and_true _ _ start (both (reaches edges b e.from) (reaches edges e.to c) over).1)
    ]
reach_onward (e ∷ edges) a b c (suc k, below, is) t =
    let step : DependsOn edges a b = (k, omega (arith, below), is) in
    elim (one_of (reaches edges b c) (reaches edges b e.from && reaches edges e.to c) t) [
      | inl without ↦ or_left (reaches edges a c) _ (reach_onward edges a b c step without)
      | inr over ↦ (
          let it = both (reaches edges b e.from) (reaches edges e.to c) over in
          or_right (reaches edges a c) _ (and_true _ _ (reach_onward edges a b e.from step it.0) it.1)
          )
    ]

reached_is : (edges : List Edge) {a b : ℕ} → Reaches edges a b → reaches edges a b ≡ true
reached_is edges (itself x) = reach_itself edges x
reached_is edges (onward x y z step rest) = reach_onward edges x y z step (reached_is edges rest)

-- Some element passes a test.
any_is : (test : ℕ → Bool) (xs : List ℕ) → list_any test xs ≡ true → (x : ℕ) × Contains xs x × (test x ≡ true)
any_is test [] e = absurd (cc)
any_is test (x ∷ xs) e =
    elim (one_of (test x) (list_any test xs) e) [
      | inl here ↦ (x, (0, omega arith, refl), here)
      | inr later ↦ (let it = any_is test xs later in (it.0, (suc it.1.0, omega (arith, it.1.1), it.1.2), it.2))
    ]

any_of : (test : ℕ → Bool) (xs : List ℕ) (x : ℕ) → Contains xs x → test x ≡ true → list_any test xs ≡ true
any_of test [] x (k, below, is) e = absurd (omega (arith, below))
any_of test (y ∷ xs) x (zero, below, is) e = or_left (test y) _ (rw is e)
any_of test (y ∷ xs) x (suc k, below, is) e = or_right (test y) _ (any_of test xs x (k, omega (arith, below), is) e)

-- A package has a name that passes a test.
has_name : (test : List ℕ → Bool) (found : Option (List ℕ)) → name_has test found ≡ true
    → (name : List ℕ) × (found ≡ Some name) × (test name ≡ true)
has_name test None e = absurd (cc)
has_name test (Some name) e = (name, refl, e)

names : (test : List ℕ → Bool) (found : Option (List ℕ)) (name : List ℕ) → found ≡ Some name
    → test name ≡ true → name_has test found ≡ true
names test found name is e = ap (name_has test) is ∙ e

-- Members with an accepted name, each beside one of a name, for any relation that is decided.
module _ (graph : Graph) (accepts : List ℕ → Bool) (name : List ℕ) (joins : ℕ → ℕ → Bool) (Joins : ℕ → ℕ → Type 0)
    (sound : (a b : ℕ) → joins a b ≡ true → Joins a b) (complete : (a b : ℕ) → Joins a b → joins a b ≡ true) where
  abbrev is_other : ℕ → ℕ → Bool
  is_other a b = is_named graph (λ other. bytes_eq other name) b && joins a b

  abbrev is_one : ℕ → Bool
  is_one a = is_named graph accepts a && list_any (is_other a) graph.members

  abbrev AreJoined : Type 0
  AreJoined = (a b : ℕ) × IsMatched graph accepts a × IsMemberNamed graph name b × Joins a b

  joined_there : list_any is_one graph.members ≡ true → AreJoined
  joined_there e =
      let first = any_is is_one graph.members e in
      let a = first.0 in
      let parts = both (is_named graph accepts a) (list_any (is_other a) graph.members) first.2 in
      let other = any_is (is_other a) graph.members parts.1 in
      let b = other.0 in
      let ends = both (is_named graph (λ x. bytes_eq x name) b) (joins a b) other.2 in
      let one = has_name accepts (slice_get graph.names a) parts.0 in
      let two = has_name (λ x. bytes_eq x name) (slice_get graph.names b) ends.0 in (
        a,
        b,
        (one.0, (first.1, one.1), one.2),
        (other.1, two.1 ∙ ap Some ((bytes_eq-Decides two.0 name).0 two.2)),
        sound a b ends.1,
      )

  joined_found : AreJoined → list_any is_one graph.members ≡ true
  joined_found (a, b, one, two, join) =
      any_of is_one graph.members a one.1.0
      (and_true _ _ (names accepts (slice_get graph.names a) one.0 one.1.1 one.2)
      (any_of (is_other a) graph.members b two.0
      (and_true _ _ (names (λ x. bytes_eq x name) (slice_get graph.names b) name two.1
      ((bytes_eq-Decides name name).1 refl)) (complete a b join))))

  joined_decides : Decides (list_any is_one graph.members) AreJoined
  joined_decides = (joined_there, joined_found)

pub dependencies_are : (graph : Graph) (accepts : List ℕ → Bool) (set : MemberSet)
    → ((name : List ℕ) → IsTrue (has_member set name) ↔ IsDependency graph accepts name)
    → has_member set ≡ is_dependency graph accepts
dependencies_are graph accepts set h =
    fun_ext (λ name. same_from_decides (has_member set name) (is_dependency graph accepts name) (h name)
    (joined_decides graph accepts name (λ a b. reaches graph.edges a b) (λ a b. Reaches graph.edges a b)
    (λ a b. is_reached graph.edges a b) (λ a b r. reached_is graph.edges r)))

pub dependents_are : (graph : Graph) (accepts : List ℕ → Bool) (set : MemberSet)
    → ((name : List ℕ) → IsTrue (has_member set name) ↔ IsDependent graph accepts name)
    → has_member set ≡ is_dependent graph accepts
dependents_are graph accepts set h =
    fun_ext (λ name. same_from_decides (has_member set name) (is_dependent graph accepts name) (h name)
    (joined_decides graph accepts name (λ a b. reaches graph.edges b a) (λ a b. Reaches graph.edges b a)
    (λ a b. is_reached graph.edges b a) (λ a b r. reached_is graph.edges r)))

-- The same for names that have something.
module _ (graph : Graph) (accepts : List ℕ → Bool) (P : List ℕ → Type 0)
    (same : (name : List ℕ) → Decides (accepts name) (P name)) where
  met : (place : ℕ) → IsMatched graph accepts place → IsMemberWith graph P place
  met place (name, is, so) = (name, is, (same name).0 so)

  matched : (place : ℕ) → IsMemberWith graph P place → IsMatched graph accepts place
  matched place (name, is, so) = (name, is, (same name).1 so)

  pub dependency_decides : (name : List ℕ) → Decides (is_dependency graph accepts name) (IsInDeps graph P name)
  dependency_decides name =
      let it = joined_decides graph accepts name (λ a b. reaches graph.edges a b) (λ a b. Reaches graph.edges a b)
      (λ a b. is_reached graph.edges a b) (λ a b r. reached_is graph.edges r) in (
        λ e. (let at = it.0 e in (at.0, at.1, met at.0 at.2, at.3, at.4)),
        λ at. it.1 (at.0, at.1, matched at.0 at.2, at.3, at.4),
      )

  pub dependent_decides : (name : List ℕ) → Decides (is_dependent graph accepts name) (IsInRdeps graph P name)
  dependent_decides name =
      let it = joined_decides graph accepts name (λ a b. reaches graph.edges b a) (λ a b. Reaches graph.edges b a)
      (λ a b. is_reached graph.edges b a) (λ a b r. reached_is graph.edges r) in (
        λ e. (let at = it.0 e in (at.0, at.1, met at.0 at.2, at.3, at.4)),
        λ at. it.1 (at.0, at.1, matched at.0 at.2, at.3, at.4),
      )
