-- The parents that the profiles of a merged tree write.
use Rattle.std.proofs.Common.{◌≡◌, List, [], ◌∷◌, Bool, true, false, cond, Option, None, Some, unwrap_or, String, Global, string_bytes, map, refl, ap}
use Rattle.std.specs.Map.{lookup, keys_of}
use Rattle.std.specs.BTreeMap.{is_at}
use Rattle.std.specs.Cmp.Lexicographic.{slice_cmp}
use Rattle.std.specs.Option.{option_and_then}
use Rattle.std.specs.Ordering.{nat_cmp}
use Rattle.nextest_inheritance.specs.Names.{Name}
use Rattle.nextest_inheritance.specs.Parents.{WrittenParents, parents_in}
use Rattle.nextest_inheritance.specs.View.{parents_view}
use Rattle.nextest_load.specs.Config.{MergedProfile as MergedProfile'}
use Rattle.nextest_load.specs.ConfigView.{merged_profile_view}
use Rattle.nextest_load.specs.Merged.{parent_in}
use Rattle.nextest_load.specs.declared.loaded_config.MergedProfile.{MergedProfile}
use Rattle.nextest_rules.specs.Rules.{at_name}
use Rattle.nextest_tables.specs.FileTexts.{names_in}
use Rattle.nextest_tables.specs.View.{by_name}

-- the parents that merged profiles write
abbrev pub parents_written : List (Name × MergedProfile') → WrittenParents
parents_written profiles = map (λ p. (p.0, p.1.parent)) profiles

-- the parents that the profiles of a map write are those of what contracts see of them
pub parents_same : (es : List (String Global × MergedProfile))
    → parents_view parent_in es ≡ parents_written (by_name merged_profile_view es)
parents_same [] = refl
parents_same (e ∷ es) = ap (λ rest. (string_bytes e.0, parent_in e.1) ∷ rest) (parents_same es)

-- the names are those of the profiles
pub keys_same : (profiles : List (Name × MergedProfile')) → keys_of (parents_written profiles) ≡ names_in profiles
keys_same [] = refl
keys_same (p ∷ profiles) = ap (λ names. p.0 ∷ names) (keys_same profiles)

cond_parent : {X Y : Type 0} (f : X → Option Y) (found : Bool) (x : X) (later : Option X)
    (seen : Option (Option Y)) → unwrap_or seen None ≡ option_and_then f later
    → unwrap_or (cond found (Some (f x)) seen) None ≡ option_and_then f (cond found (Some x) later)
cond_parent f true x later seen same = refl
cond_parent f false x later seen same = same

-- the parent of a name is the one of the profile at it
pub parent_there : (profiles : List (Name × MergedProfile')) (name : Name)
    → parents_in (parents_written profiles) name ≡ option_and_then (λ p. p.parent) (at_name name profiles)
parent_there [] name = refl
parent_there (p ∷ profiles) name =
    cond_parent (λ q. q.parent) (is_at (slice_cmp nat_cmp name) p.0) p.1
    (lookup (is_at (slice_cmp nat_cmp name)) profiles)
    (lookup (is_at (slice_cmp nat_cmp name)) (parents_written profiles)) (parent_there profiles name)
