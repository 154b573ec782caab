-- The names that are known once a file more is.
use Rattle.std.proofs.Common.{◌≡◌, List, [], ◌∷◌, ◌++◌, ◌||◌, map, length, Bool, true, false, not, cond, IsTrue, ◌↔◌, Option, Some, nat_cmp, refl, sym, ap, ◌∙◌, append-nil, arith}
use Rattle.std.specs.BTreeMap.{is_at}
use Rattle.std.specs.Cmp.Lexicographic.{slice_cmp, nat_list_eq_equiv}
use Rattle.std.specs.List.{flat_map}
use Rattle.std.specs.Map.{lookup}
use Rattle.std.specs.Option.{is_some}
use Rattle.std.specs.Str.{bytes_eq}
use Rattle.std.proofs.lemmas.Bool.{false≢true}
use Rattle.std.proofs.lemmas.List.Concat.{flat_map-append}
use Rattle.std.proofs.lemmas.List.Folds.{list_any-append}
use Rattle.std.proofs.lemmas.Map.Text.{is_eq-slice_cmp}
use Rattle.nextest_tree.specs.Schema.{is_one_of}
use Rattle.nextest_sources.specs.Causes.{NameSet}
use Rattle.nextest_tables.specs.FileTexts.{FileText, names_in}
use Rattle.nextest_tables.specs.Written.{Name}
use Rattle.nextest_rules.specs.Definitions.{is_nonempty}
use Rattle.nextest_rules.specs.Known.{KnownSets}

-- the names of keys are those of what is seen at them
pub keys_named : {K V W : Type 0} (text : K → Name) (see : V → W) (es : List (K × V))
    → map (λ e. text e.0) es ≡ names_in (map (λ e. (text e.0, see e.1)) es)
keys_named text see [] = refl
keys_named text see (e ∷ es) = ap (λ names. text e.0 ∷ names) (keys_named text see es)

-- the names of both lists
pub one_of_both : (xs ys : List Name) (q : Name) → is_one_of (xs ++ ys) q ≡ (is_one_of xs q || is_one_of ys q)
one_of_both xs ys q = list_any-append (λ name. bytes_eq name q) xs ys

file_more : (g : FileText → List Name) (below : List FileText) (f : FileText)
    → flat_map g (below ++ f ∷ []) ≡ flat_map g below ++ g f
file_more g below f = flat_map-append g below (f ∷ []) ∙ ap (λ names. flat_map g below ++ names) (append-nil (g f))

-- one file more
pub set_more : (g : FileText → List Name) (below : List FileText) (f : FileText) (old new : NameSet) (names : List Name)
    → old ≡ is_one_of (flat_map g below) → ((q : Name) → new q ≡ (old q || is_one_of names q)) → names ≡ g f
    → new ≡ is_one_of (flat_map g (below ++ f ∷ []))
set_more g below f old new names was more same =
    λ i q. (more q ∙ (λ j. was j q || is_one_of (same j) q)
    ∙ sym (ap (λ all. is_one_of all q) (file_more g below f) ∙ one_of_both (flat_map g below) (g f) q)) i

or_assoc : (a b c : Bool) → ((a || b) || c) ≡ (a || (b || c))
or_assoc true b c = refl
or_assoc false b c = refl

-- two lists one after another
pub two_more : (old mid new : NameSet) (xs ys : List Name) → ((q : Name) → mid q ≡ (old q || is_one_of xs q))
    → ((q : Name) → new q ≡ (mid q || is_one_of ys q)) → (q : Name) → new q ≡ (old q || is_one_of (xs ++ ys) q)
two_more old mid new xs ys first next q =
    next q ∙ ap (λ b. b || is_one_of ys q) (first q) ∙ or_assoc (old q) (is_one_of xs q) (is_one_of ys q)
    ∙ ap (λ b. old q || b) (sym (one_of_both xs ys q))

-- the same names, kind by kind
pub same_sets : (a b : KnownSets) → a.groups ≡ b.groups → a.setup_scripts ≡ b.setup_scripts
    → a.wrapper_scripts ≡ b.wrapper_scripts
    → a.profiles ≡ b.profiles → a ≡ b
same_sets a b groups setup wrapper profiles =
    λ i. record { groups = groups i; setup_scripts = setup i; wrapper_scripts = wrapper i; profiles = profiles i }

-- whether one list or the other has an element
pub either_nonempty : {X : Type 0} (xs ys : List X) → is_nonempty (xs ++ ys) ≡ (is_nonempty xs || is_nonempty ys)
either_nonempty [] ys = refl
either_nonempty (x ∷ xs) ys = refl

-- a table without entries names nothing
pub names_any : {X : Type 0} (name : X → Name) (es : List X) (b : Bool) → IsTrue b ↔ (length es ≡ 0)
    → not b ≡ is_nonempty (map name es)
names_any name [] true empty = refl
names_any name [] false empty = absurd (false≢true (empty.1 refl))
names_any name (e ∷ es) true empty = let none = empty.0 refl in absurd (omega arith)
names_any name (e ∷ es) false empty = refl

key_at : {V : Type 0} (found same : Bool) (value : V) (later : Option V) (others : Bool) → found ≡ same
    → is_some later ≡ others
    → is_some (cond found (Some value) later) ≡ (same || others)
key_at true same value later others is rest = rw (← is) refl
key_at false same value later others is rest = rw (← is) rest

-- a map has a key of a text where one of the names of its keys is the text
pub key_there : {K V : Type 0} (text : K → Name) (es : List (K × V)) (name : Name)
    → is_some (lookup (is_at (λ key. slice_cmp nat_cmp name (text key))) es) ≡ is_one_of (map (λ e. text e.0) es) name
key_there text [] name = refl
key_there text (e ∷ es) name =
    key_at _ (bytes_eq (text e.0) name) e.1 _ _
    (is_eq-slice_cmp name (text e.0) ∙ nat_list_eq_equiv.symm name (text e.0)) (key_there text es name)
