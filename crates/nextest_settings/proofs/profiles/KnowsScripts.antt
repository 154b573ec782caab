-- The scripts that the rules of a chain name are those of a closed configuration.
use Rattle.std.proofs.Common.{◌≡◌, List, [], ◌∷◌, map, refl, ap, ◌∙◌, sym, subst}
use Rattle.nextest_load.specs.Closed.{BinaryMatch, IsClosed, AnswersBinaries}
use Rattle.nextest_load.specs.Config.{ConfigModel, ScriptTables}
use Rattle.nextest_load.specs.Meaning.{config_meaning}
use Rattle.nextest_rules.specs.Accepted.{IfWritten}
use Rattle.nextest_rules.specs.Meaning.{layer_meaning, script_rule_meaning}
use Rattle.nextest_rules.specs.Rules.{Compiled, ScriptRuleUse}
use Rattle.nextest_settings.specs.Chains.{script_rules_of}
use Rattle.nextest_sources.specs.InputFaults.{Each}
use Rattle.nextest_tables.specs.FileTexts.{ScriptUse, names_in, IsIn}
use Rattle.nextest_tables.specs.Written.{Name}
use Rattle.nextest_settings.specs.Profiles.Known.{KnowsScripts}
use Rattle.nextest_settings.proofs.profiles.EachRule.{each_image, each_gathered}
use Rattle.nextest_settings.proofs.profiles.MeaningOfTexts.{script_rules_meaning}

-- one map after another
pub fused : {X Y Z : Type 0} (f : Y → Z) (g : X → Y) (xs : List X) → map f (map g xs) ≡ map (λ x. f (g x)) xs
fused f g [] = refl
fused f g (x ∷ xs) = ap (λ ys. f (g x) ∷ ys) (fused f g xs)

-- what script rules name
abbrev pub uses_of : {M K : Type 0} → List (Compiled M K ScriptRuleUse) → List ScriptUse
uses_of rules = map (λ r. r.writes.scripts) rules

module _ {E N M K : Type 0} (f : E → M) (g : N → K) (matches : BinaryMatch M) (config : ConfigModel E N)
    (scripts : ScriptTables) (closed : IsClosed matches (config_meaning f g config) scripts) (names : List Name) where
  same_uses : uses_of (script_rules_of (map (layer_meaning f g) config.layers) names)
      ≡ uses_of (script_rules_of config.layers names)
  same_uses =
      ap uses_of (sym (script_rules_meaning f g config.layers names))
      ∙ fused (λ r. r.writes.scripts) (script_rule_meaning f g) (script_rules_of config.layers names)

  of_uses : (Q : ScriptUse → Type 0)
      → Each (λ l. Each (λ p. Each (λ r. Q r.writes.scripts) p.1.script_rules) l.profiles)
      (map (layer_meaning f g) config.layers)
      → Each Q (uses_of (script_rules_of config.layers names))
  of_uses Q all =
      subst (Each Q) same_uses
      (each_image Q (λ r. r.writes.scripts) (script_rules_of (map (layer_meaning f g) config.layers) names)
      (each_gathered (λ r. Q r.writes.scripts) (λ p. p.script_rules) (map (layer_meaning f g) config.layers) names all))

  pub knows_scripts : KnowsScripts scripts (uses_of (script_rules_of config.layers names))
  knows_scripts = record {
    setup = of_uses (λ named. Each (IsIn (names_in scripts.setup)) named.setup) closed.setup_scripts;
    list_wrappers = of_uses (λ named. IfWritten named.list_wrapper (IsIn (names_in scripts.wrapper)))
        closed.list_wrappers;
    run_wrappers = of_uses (λ named. IfWritten named.run_wrapper (IsIn (names_in scripts.wrapper))) closed.run_wrappers;
  }

  pub filters_answer : Each (AnswersBinaries matches)
      (map (script_rule_meaning f g) (script_rules_of config.layers names))
  filters_answer =
      subst (Each (AnswersBinaries matches)) (sym (script_rules_meaning f g config.layers names))
      (each_gathered (AnswersBinaries matches) (λ p. p.script_rules) (map (layer_meaning f g) config.layers)
      names closed.list_filters)
