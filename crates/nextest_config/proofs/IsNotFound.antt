-- Names of profiles that a map has or has not.
use Rattle.std.proofs.Common.{◌≡◌, ◌∙◌, ◌||◌, Bool, true, false, cond, List, [], ◌∷◌, map, Option, Some, None, is_some, option_map, String, Global, string_bytes, Less, nat_cmp, refl, sym, ap}
use Rattle.std.proofs.lemmas.Cmp.{nat_list_eq_equiv}
use Rattle.std.proofs.lemmas.Map.Text.{is_eq-slice_cmp}
use Rattle.std.specs.BTreeMap.{is_at}
use Rattle.std.specs.Cmp.Lexicographic.{slice_cmp}
use Rattle.std.specs.List.{AllByRecursion}
use Rattle.std.specs.List.Sorted.{IsStrictlySortedBy}
use Rattle.std.specs.Map.{lookup}
use Rattle.std.specs.Str.{bytes_eq}
use Rattle.std.specs.String.{string_cmp}
use Rattle.nextest_tables.specs.FileTexts.{names_in}
use Rattle.nextest_tables.specs.View.{by_name}
use Rattle.nextest_tables.specs.Written.{Name}
use Rattle.nextest_tree.specs.Schema.{is_one_of}
use Rattle.nextest_settings.proofs.KnowsScripts.{fused}

key_at : {X : Type 0} (found same : Bool) (x : X) (later : Option X) (seen : Bool) → found ≡ same
    → is_some later ≡ seen → is_some (cond found (Some x) later) ≡ (same || seen)
key_at true same x later seen is rest = ap (λ b. b || seen) is
key_at false same x later seen is rest = rest ∙ ap (λ b. b || seen) is

-- a name is one of these exactly if the map has it
known_at : {X : Type 0} (es : List (String Global × X)) (name : Name)
    → is_some (lookup (is_at (λ key. slice_cmp nat_cmp name (string_bytes key))) es)
    ≡ is_one_of (map (λ e. string_bytes e.0) es) name
known_at [] name = refl
known_at (e ∷ es) name =
    key_at (is_at (λ key. slice_cmp nat_cmp name (string_bytes key)) e.0) (bytes_eq (string_bytes e.0) name) e.1
    (lookup (is_at (λ key. slice_cmp nat_cmp name (string_bytes key))) es)
    (is_one_of (map (λ e. string_bytes e.0) es) name)
    (is_eq-slice_cmp name (string_bytes e.0) ∙ nat_list_eq_equiv.symm name (string_bytes e.0)) (known_at es name)

-- the same, of the names in what contracts see of the map
pub known_in : {X Y : Type 0} (f : X → Y) (es : List (String Global × X)) (name : Name)
    → is_some (lookup (is_at (λ key. slice_cmp nat_cmp name (string_bytes key))) es)
    ≡ is_one_of (names_in (by_name f es)) name
known_in f es name = known_at es name
    ∙ ap (λ names. is_one_of names name) (sym (fused (λ p. p.0) (λ e. (string_bytes e.0, f e.1)) es))

-- the names in what contracts see of a map
pub names_of_view : {X Y : Type 0} (f : X → Y) (es : List (String Global × X))
    → names_in (by_name f es) ≡ map (λ e. string_bytes e.0) es
names_of_view f es = fused (λ p. p.0) (λ e. (string_bytes e.0, f e.1)) es

-- whether a look-up finds something
pub some_found : {X Y : Type 0} (f : X → Y) (o : Option X) (r : Option Y) → option_map f o ≡ r → is_some r ≡ is_some o
some_found f None r is = ap is_some (sym is)
some_found f (Some x) r is = ap is_some (sym is)

below_names : (k : String Global) (ks : List (String Global)) → AllByRecursion (λ l. string_cmp k l ≡ Less) ks
    → AllByRecursion (λ name. slice_cmp nat_cmp (string_bytes k) name ≡ Less) (map string_bytes ks)
below_names k [] h = tt
below_names k (l ∷ ks) h = (h.0, below_names k ks h.1)

-- the names of a map ascend
pub names_ascend : (ks : List (String Global)) → IsStrictlySortedBy string_cmp ks
    → IsStrictlySortedBy (slice_cmp nat_cmp) (map string_bytes ks)
unfolding IsStrictlySortedBy
names_ascend [] h = tt
names_ascend (k ∷ ks) h = (below_names k ks h.0, names_ascend ks h.1)
