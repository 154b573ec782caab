-- What is at a name: where each element is made of another, and among those that pass a test.
use Rattle.std.proofs.Common.{◌≡◌, ◌∙◌, List, [], ◌∷◌, map, filter, Bool, true, false, cond, Option, None, Some, option_map, Ordering, Less, Equal, Greater, nat_cmp, is_eq, refl, sym, ap}
use Rattle.std.proofs.lemmas.Map.Lookups.{exact_bytes}
use Rattle.std.specs.Cmp.Lexicographic.{slice_cmp}
use Rattle.std.specs.Ordering.{match_ordering}
use Rattle.nextest_tables.specs.Texts.{each_in}
use Rattle.nextest_tables.specs.Written.{Name}
use Rattle.nextest_tree.specs.Node.{Node, Entries, no_entries, entry, get}
use Rattle.nextest_rules.specs.Rules.{at_name}

module _ {X Y : Type 0} (h : Name → X → Y) (name : Name) where
  mapped_step : (o : Ordering) (key : Name) (x : X) (later : Option Y) (r : Option X)
      → slice_cmp nat_cmp name key ≡ o → later ≡ option_map (h name) r
      → cond (is_eq o) (Some (h key x)) later ≡ option_map (h name) (cond (is_eq o) (Some x) r)
  mapped_step Less key x later r is rest = rest
  mapped_step Equal key x later r is rest = ap (λ n. Some (h n x)) (sym (exact_bytes name key is))
  mapped_step Greater key x later r is rest = rest

  -- what is at a name, where each element is made of its name and its value
  pub at_mapped : (es : List (Name × X))
      → at_name name (map (λ e. (e.0, h e.0 e.1)) es) ≡ option_map (h name) (at_name name es)
  at_mapped [] = refl
  at_mapped (e ∷ es) = mapped_step (slice_cmp nat_cmp name e.0) e.0 e.1
      (at_name name (map (λ e. (e.0, h e.0 e.1)) es)) (at_name name es) refl (at_mapped es)

module _ {X : Type 0} (f : Node → X) (name : Name) where
  each_step : (o : Ordering) (n : Node) (later : Option X) (r : Option Node) → later ≡ option_map f r
      → cond (is_eq o) (Some (f n)) later ≡ option_map f (match_ordering o r (Some n) r)
  each_step Less n later r rest = rest
  each_step Equal n later r rest = refl
  each_step Greater n later r rest = rest

  -- what is read at a name
  pub at_each : (es : Entries) → at_name name (each_in f es) ≡ option_map f (get name es)
  at_each no_entries = refl
  at_each (entry k n es) = each_step (slice_cmp nat_cmp name k) n (at_name name (each_in f es)) (get name es)
      (at_each es)

-- what is at a name among those that pass
module _ {X : Type 0} (passes : Name → Bool) (id : Name) where
  filtered_step : (o : Ordering) (b c : Bool) (x : X) (rest found : Option X) → (o ≡ Equal → b ≡ c)
      → rest ≡ cond c found None
      → cond b (cond (is_eq o) (Some x) rest) rest ≡ cond c (cond (is_eq o) (Some x) found) None
  filtered_step Less true c x rest found tie h = h
  filtered_step Less false c x rest found tie h = h
  filtered_step Greater true c x rest found tie h = h
  filtered_step Greater false c x rest found tie h = h
  filtered_step Equal true true x rest found tie h = refl
  filtered_step Equal true false x rest found tie h = let bad : true ≡ false = tie refl in absurd cc
  filtered_step Equal false true x rest found tie h = let bad : false ≡ true = tie refl in absurd cc
  filtered_step Equal false false x rest found tie h = h

  through : (b : Bool) (e : Name × X) (es : List (Name × X))
      → at_name id (cond b (e ∷ es) es)
      ≡ cond b (cond (is_eq (slice_cmp nat_cmp id e.0)) (Some e.1) (at_name id es)) (at_name id es)
  through true e es = refl
  through false e es = refl

  nothing : (b : Bool) → let none : Option X = None in none ≡ cond b none none
  nothing true = refl
  nothing false = refl

  pub at_filtered : (es : List (Name × X))
      → at_name id (filter (λ e. passes e.0) es) ≡ cond (passes id) (at_name id es) None
  at_filtered [] = nothing (passes id)
  at_filtered (e ∷ es) =
      through (passes e.0) e (filter (λ e. passes e.0) es)
      ∙ filtered_step (slice_cmp nat_cmp id e.0) (passes e.0) (passes id) e.1
      (at_name id (filter (λ e. passes e.0) es)) (at_name id es)
      (λ tie. ap passes (sym (exact_bytes id e.0 tie))) (at_filtered es)
