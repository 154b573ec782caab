-- Names in sets.
use Rattle.std.proofs.Common.{◌≡◌, List, ◌∷◌, ◌||◌, map, Some, Bool, true, false, cond, String, Global, string_bytes, refl, ap, ◌∙◌}
use Rattle.std.specs.BTreeSet.{BTreeSet, contains_text, Updates}
use Rattle.std.specs.Str.{bytes_eq}
use Rattle.std.specs.String.{string_cmp}
use Rattle.std.proofs.lemmas.Map.Text.{btree_set_updates_text}
use Rattle.nextest_elements.specs.TestGroup.{custom_group_text}
use Rattle.nextest_elements.specs.declared.test_group.CustomTestGroup.{CustomTestGroup}
use Rattle.nextest_elements.specs.declared.test_group.TestGroupConfig.{TestGroupConfig}
use Rattle.nextest_load.specs.ConfigView.{groups_view}
use Rattle.nextest_tables.specs.FileTexts.{names_in}
use Rattle.nextest_tables.specs.Written.{Name}
use Rattle.nextest_tree.specs.Schema.{is_one_of}
use Rattle.nextest_settings.proofs.profiles.KnowsScripts.{fused}

turned : (a b c : Bool) → (cond b true a || c) ≡ (a || (b || c))
turned true true c = refl
turned true false c = refl
turned false true c = refl
turned false false c = refl

-- one name after another
pub next_name : (old new : BTreeSet (String Global)) (key : String Global) (text : Name) (rest : List Name) (q : Name)
    → string_bytes key ≡ text → Updates string_cmp old new key true
    → (contains_text new q || is_one_of rest q) ≡ (contains_text old q || is_one_of (text ∷ rest) q)
next_name old new key text rest q same updates =
    rw (← same) (ap (λ b. b || is_one_of rest q) (btree_set_updates_text (string_bytes key) old new true updates q)
    ∙ turned (contains_text old q) (bytes_eq (string_bytes key) q) (is_one_of rest q))

pub or-false : (b : Bool) → (b || false) ≡ b
or-false true = refl
or-false false = refl

-- the names of groups
pub names_of_entries : (es : List (CustomTestGroup × TestGroupConfig))
    → names_in (groups_view es) ≡ map (λ e. custom_group_text e.0) es
names_of_entries es = fused (λ p. p.0) (λ e. (custom_group_text e.0, Some e.1)) es
