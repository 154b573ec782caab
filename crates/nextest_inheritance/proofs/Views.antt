-- The parents that the profiles of a map write.
use Rattle.std.proofs.Common.{◌≡◌, List, [], ◌∷◌, Bool, true, false, cond, Option, None, Some, String, Global, string_bytes, nat_cmp, refl, ◌||◌}
use Rattle.std.specs.BTreeMap.{is_at}
use Rattle.std.specs.Cmp.Lexicographic.{slice_cmp}
use Rattle.std.specs.Map.{keys_of, lookup}
use Rattle.std.specs.Option.{is_some, option_and_then, unwrap_or}
use Rattle.std.specs.Set.{is_member}
use Rattle.std.specs.Str.{bytes_eq}
use Rattle.std.proofs.lemmas.Map.Text.{is_eq-slice_cmp}
use Rattle.nextest_inheritance.specs.Names.{Name}
use Rattle.nextest_inheritance.specs.Parents.{parents_in}
use Rattle.nextest_inheritance.specs.View.{parents_view}

first_of : {P : Type 0} (parent : P → Option Name) (found : Bool) (profile : P) (later : Option P)
    (seen : Option (Option Name)) → unwrap_or seen None ≡ option_and_then parent later
    → unwrap_or (cond found (Some (parent profile)) seen) None
    ≡ option_and_then parent (cond found (Some profile) later)
first_of parent true profile later seen same = refl
first_of parent false profile later seen same = same

-- the parent of a name is the one that the profile writes which the map finds at it
pub parent_found : {P : Type 0} (parent : P → Option Name)
    (es : List (String Global × P)) (name : Name)
    → parents_in (parents_view parent es) name
    ≡ option_and_then parent (lookup (is_at (λ key. slice_cmp nat_cmp name (string_bytes key))) es)
parent_found parent [] name = refl
parent_found parent (e ∷ es) name =
    first_of parent _ e.1 _ _ (parent_found parent es name)

key_at : {P : Type 0} (found same : Bool) (profile : P) (later : Option P) (seen : Bool) → found ≡ same
    → is_some later ≡ seen → is_some (cond found (Some profile) later) ≡ (same || seen)
key_at true same profile later seen is rest = rw (← is) refl
key_at false same profile later seen is rest = rw (← is) rest

-- a name is that of a profile exactly if the map has it
pub key_found : {P : Type 0} (parent : P → Option Name) (es : List (String Global × P)) (name : Name)
    → is_some (lookup (is_at (λ key. slice_cmp nat_cmp name (string_bytes key))) es)
    ≡ is_member bytes_eq (keys_of (parents_view parent es)) name
key_found parent [] name = refl
key_found parent (e ∷ es) name =
    key_at _ (bytes_eq name (string_bytes e.0)) e.1 _ _ (is_eq-slice_cmp name (string_bytes e.0))
    (key_found parent es name)
