-- What a load promises, from its steps and its parts.
use Rattle.std.proofs.Common.{◌≡◌, List, [], ◌∷◌, map, Result, Ok, Err, refl, sym, ap, subst, ◌∙◌}
use Rattle.nextest_engines.specs.Readings.{Readings}
use Rattle.nextest_rules.specs.Definitions.{Features}
use Rattle.nextest_rules.specs.Meaning.{layer_meaning}
use Rattle.nextest_rules.specs.View.{layer_view}
use Rattle.nextest_sources.specs.Endings.{ending, passed, Ran}
use Rattle.nextest_sources.specs.Inputs.{LoadInputs, sources_in}
use Rattle.nextest_sources.specs.Warnings.{Warning}
use Rattle.nextest_sources.specs.declared.error.ConfigParseError.{ConfigParseError}
use Rattle.nextest_load.specs.Closed.{HasDefaults, IsClosed}
use Rattle.nextest_load.specs.Config.{ConfigModel, config_of}
use Rattle.nextest_load.specs.ConfigView.{scripts_view}
use Rattle.nextest_load.specs.Laws.{AnswerDefaultFilters}
use Rattle.nextest_load.specs.Load.{Loaded, IsLoad}
use Rattle.nextest_load.specs.Meaning.{config_meaning, loaded_meaning}
use Rattle.nextest_load.specs.Merged.{MergedText}
use Rattle.nextest_load.specs.Parts.{AreParts, config_parts}
use Rattle.nextest_load.specs.Scripts.{AreScriptsOf}
use Rattle.nextest_load.specs.Steps.{load_steps}
use Rattle.nextest_load.specs.declared.load.ConfigParts.{ConfigParts}
use Rattle.nextest_load.proofs.Accepting.{DefinitionsLaw, RulesLaw, ToolsLaw, accepted_from, verdict}
use Rattle.nextest_load.proofs.Closing.{closed, merged_tree_readable}
use Rattle.nextest_load.proofs.Exactness.{exact}
use Rattle.nextest_load.proofs.MergedScripts.{have_ids}

map_twice : {X Y Z : Type 0} (f : X → Y) (g : Y → Z) (xs : List X) → map g (map f xs) ≡ map (λ x. g (f x)) xs
map_twice f g [] = refl
map_twice f g (x ∷ xs) = ap (λ ys. g (f x) ∷ ys) (map_twice f g xs)

module _ {M K P : Type 0} (engines : Readings M K P) (features : Features) (files : LoadInputs)
    (definitions : DefinitionsLaw features) (rules : RulesLaw engines) (tools : ToolsLaw) where
  -- a load that was refused
  pub refused_is : {R : Type 0} {old new : List Warning} (loaded : R → Loaded M K)
      (r : Result R ConfigParseError) (e : ConfigParseError) → r ≡ Err e
      → Ran (load_steps engines features files) old new (ending r) → IsLoad loaded engines features files old new r
  refused_is loaded r e is ran =
      record {
        verdict = verdict engines features definitions rules tools files r ran;
        ran = ran;
        exact = exact files engines features ran;
        means = rw is tt;
        scripts = rw is tt;
        closed = rw is tt;
      }

module _ {F S E T N Q M K P : Type 0} (meaning : E → M) (spec_meaning : N → K) (engines : Readings M K P)
    (features : Features) (files : LoadInputs)
    (definitions : DefinitionsLaw features) (rules : RulesLaw engines) (tools : ToolsLaw) where
  -- parts mean what the sources say
  parts_mean : (parts : ConfigParts F S E T N Q) (all : E) → meaning all ≡ engines.match_all
      → AreParts meaning spec_meaning engines (sources_in files) parts
      → config_meaning meaning spec_meaning (config_parts parts.tables parts.layers.items all)
      ≡ config_of engines (sources_in files)
  parts_mean parts all is are =
      let layers = map_twice layer_view (layer_meaning meaning spec_meaning) parts.layers.items ∙ are.layers in
      λ i. record {
        store_dir = (are.tables.means i).store_dir;
        profiles = (are.tables.means i).profiles;
        groups = (are.tables.means i).groups;
        layers = layers i;
        match_all = is i;
      }

  -- and they are closed
  pub parts_closed : {old new : List Warning} (parts : ConfigParts F S E T N Q) (all : E)
      → meaning all ≡ engines.match_all → AnswerDefaultFilters engines
      → Ran (load_steps engines features files) old new passed
      → AreParts meaning spec_meaning engines (sources_in files) parts
      → IsClosed engines.matches_binary
      (config_meaning meaning spec_meaning (config_parts parts.tables parts.layers.items all))
      (scripts_view parts.tables.scripts)
  parts_closed parts all is law ran are =
      let accepted = accepted_from engines features definitions rules tools files ran.is.0 in
      let has = are.tables.defaults (merged_tree_readable engines features files accepted) in
      let has_here = subst HasDefaults (ap (λ (t : MergedText). t.profiles) are.tables.means) has in
      subst (λ (config : ConfigModel M K). IsClosed engines.matches_binary config
      (scripts_view parts.tables.scripts)) (sym (parts_mean parts all is are))
      (closed engines features files (scripts_view parts.tables.scripts) law accepted
      (have_ids (sources_in files) (scripts_view parts.tables.scripts) are.tables.scripts) has_here)

  -- a load that made parts
  pub loaded_is : {old new : List Warning} (parts : ConfigParts F S E T N Q) (all : E) (made : Loaded E N)
      → meaning all ≡ engines.match_all → AnswerDefaultFilters engines
      → Ran (load_steps engines features files) old new passed
      → AreParts meaning spec_meaning engines (sources_in files) parts
      → made ≡ record {
        config = config_parts parts.tables parts.layers.items all;
        scripts =
            scripts_view parts.tables.scripts;
      }
      → IsLoad (loaded_meaning meaning spec_meaning) engines features files old new (Ok made)
  loaded_is parts all made is law ran are made_is =
      record {
        verdict = verdict engines features definitions rules tools files (Ok made) ran;
        ran = ran;
        exact = exact files engines features ran;
        means = ap (λ (l : Loaded E N). config_meaning meaning spec_meaning l.config) made_is
            ∙ parts_mean parts all is are;
        scripts = subst (λ (l : Loaded E N). AreScriptsOf (sources_in files) l.scripts) (sym made_is)
            are.tables.scripts;
        closed = subst (λ (l : Loaded E N). IsClosed engines.matches_binary
            (loaded_meaning meaning spec_meaning l).config (loaded_meaning meaning spec_meaning l).scripts)
            (sym made_is)
            (parts_closed parts all is law ran are);
      }
