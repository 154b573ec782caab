-- Nodes of profiles that have no rule and no default filter: those of the defaults.
use Rattle.std.proofs.Common.{◌≡◌, ◌∙◌, [], Option, None, Some, Ordering, Less, Equal, Greater, nat_cmp, refl, sym, ap, subst}
use Rattle.std.specs.Cmp.Lexicographic.{slice_cmp}
use Rattle.std.specs.Ordering.{match_ordering}
use Rattle.nextest_documents.proofs.Laying.{laid_over}
use Rattle.nextest_sources.specs.Inputs.{SourceText}
use Rattle.nextest_tables.specs.Defaults.{miri_name, profile_default, profiles_default, defaults}
use Rattle.nextest_tables.specs.FileTexts.{profile_text}
use Rattle.nextest_tables.specs.Written.{Name, default_name}
use Rattle.nextest_tree.specs.Key.{key_text}
use Rattle.nextest_tree.specs.Node.{Node, table, no_entries}
use Rattle.nextest_load.specs.Agreement.{node_of_profile}
use Rattle.nextest_load.specs.Trees.{tree_in, own_tree}
use Rattle.nextest_load.proofs.Keeping.{IfThere}
use Rattle.nextest_load.proofs.Under.{Leads, own_profile}

-- A node of a profile has no rule and no default filter.
pub record HasNoRules (n : Node) : Type 0 where
  pub overrides : (profile_text n).overrides ≡ []
  pub script_rules : (profile_text n).script_rules ≡ []
  pub default_filter : (profile_text n).default_filter ≡ None

empty_has_none : HasNoRules (table no_entries)
empty_has_none = record { overrides = refl; script_rules = refl; default_filter = refl }

default_has_none : HasNoRules profile_default
unfolding profile_default key_text
default_has_none = record { overrides = refl; script_rules = refl; default_filter = refl }

found : (o : Ordering) (n : Node) (rest : Option Node) → HasNoRules n → IfThere HasNoRules rest
    → IfThere HasNoRules (match_ordering o rest (Some n) rest)
found Less n rest here later = later
found Equal n rest here later = here
found Greater n rest here later = later

-- the defaults have no rule of any profile
pub defaults_have_none : (name : Name) → IfThere HasNoRules (node_of_profile name defaults)
unfolding defaults profiles_default key_text
defaults_have_none name =
    found (slice_cmp nat_cmp name default_name) profile_default _ default_has_none
    (found (slice_cmp nat_cmp name miri_name) (table no_entries) None empty_has_none tt)

-- so where a source has nothing of a profile, it has no rule of it over the defaults
pub absent_has_none : (name : Name) (s : SourceText) → Leads (tree_in s)
    → node_of_profile name (tree_in s) ≡ None → IfThere HasNoRules (node_of_profile name (own_tree s))
absent_has_none name s leads none =
    subst (IfThere HasNoRules)
    (sym (own_profile name s leads ∙ ap (λ o. laid_over o (node_of_profile name defaults)) none))
    (defaults_have_none name)
