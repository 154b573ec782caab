-- What is at a name, through a view of the map's entries.
use Rattle.std.proofs.Common.{◌≡◌, List, [], ◌∷◌, cond, Option, Some, None, option_map, String, Global, Ordering, Less, Equal, Greater, nat_cmp, string_bytes, is_eq, is_some, Bor, refl, ap, ◌∙◌, sym}
use Rattle.std.specs.Cmp.Lexicographic.{slice_cmp}
use Rattle.std.specs.Map.{lookup}
use Rattle.std.specs.BTreeMap.{is_at}
use Rattle.nextest_rules.specs.Rules.{at_name}
use Rattle.nextest_tables.specs.Written.{Name}
use Rattle.nextest_tables.specs.View.{by_name}

found_or : {X Y : Type 0} (f : X → Y) (o : Ordering) (x : X) (rest : Option X) (d : Option Y)
    → d ≡ option_map f rest → cond (is_eq o) (Some (f x)) d ≡ option_map f (cond (is_eq o) (Some x) rest)
found_or f Less x rest d e = e
found_or f Equal x rest d e = refl
found_or f Greater x rest d e = e

pub at_name-by_name : {X Y : Type 0} (f : X → Y) (name : Name) (es : List (String Global × X))
    → at_name name (by_name f es) ≡ option_map f (lookup (is_at (λ k. slice_cmp nat_cmp name (string_bytes k))) es)
at_name-by_name f name [] = refl
at_name-by_name f name (e ∷ es) =
    found_or f (slice_cmp nat_cmp name (string_bytes e.0)) e.1 _ _ (at_name-by_name f name es)

pub ref_map : {X Y : Type 0} (f : X → Y) (r : Option (Bor X))
    → option_map (λ x. f x.now) r ≡ option_map f (option_map (λ x. x.now) r)
ref_map f None = refl
ref_map f (Some x) = refl

-- what a map finds at a name, for callers of its `get`
pub got_at : {X Y : Type 0} (f : X → Y) (name : Name) (es : List (String Global × X)) (r : Option (Bor X))
    → option_map (λ x. x.now) r ≡ lookup (is_at (λ k. slice_cmp nat_cmp name (string_bytes k))) es
    → option_map (λ x. f x.now) r ≡ at_name name (by_name f es)
got_at f name es r found = ref_map f r ∙ ap (option_map f) found ∙ sym (at_name-by_name f name es)

-- a filter that was looked up, by what it means
pub filter_ref : {E M : Type 0} (meaning : E → M) (r : Option (Bor E)) (o : Option E)
    → option_map (λ e. e.now) r ≡ o → option_map (λ e. meaning e.now) r ≡ option_map meaning o
filter_ref meaning r o found = ref_map meaning r ∙ ap (option_map meaning) found

pub some_ref : {E M : Type 0} (meaning : E → M) (r : Option (Bor E)) (o : Option E)
    → option_map (λ e. e.now) r ≡ o → is_some r ≡ is_some (option_map meaning o)
some_ref meaning r o found = some_mapped (λ e. meaning e.now) r ∙ ap is_some (filter_ref meaning r o found) where
  some_mapped : {A B : Type 0} (f : A → B) (o : Option A) → is_some o ≡ is_some (option_map f o)
  some_mapped f None = refl
  some_mapped f (Some x) = refl

-- whether something is there, by what is seen of it
pub some_of : {A B : Type 0} (f : A → B) (r : Option A) (o : Option B) → option_map f r ≡ o → is_some r ≡ is_some o
some_of f None o is = ap is_some is
some_of f (Some x) o is = ap is_some is
