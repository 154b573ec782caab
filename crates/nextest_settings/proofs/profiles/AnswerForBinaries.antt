-- Script rules that answer for binaries answer on all platforms.
use Rattle.std.proofs.Common.{◌≡◌, List, [], ◌∷◌, Bor, Bool, Option, map, ap, ◌∙◌, sym, subst}
use Rattle.nextest_engines.specs.declared.queries.BuildPlatforms.{BuildPlatforms}
use Rattle.nextest_load.specs.Closed.{BinaryMatch}
use Rattle.nextest_rules.specs.Meaning as rules
use Rattle.nextest_rules.specs.declared.overrides.CompiledProfileScripts.{CompiledProfileScripts}
use Rattle.nextest_settings.specs.Platforms.{rule_on}
use Rattle.nextest_settings.specs.Queries.{AnswerForBinaries}
use Rattle.nextest_settings.specs.View.{script_rule_ref_view, evaluated_script_rule_meaning, meant_script_rule, evaluated_script_rule_view}
use Rattle.nextest_settings.specs.declared.platforms.EvaluatedRule.{EvaluatedRule}
use Rattle.nextest_settings.specs.Profiles.Known.{AnswerLists}
use Rattle.nextest_settings.proofs.profiles.KnowsScripts.{fused}

module _ {F S E T N P M K B : Type 0} (matches : BinaryMatch M) (f : E → M) (g : N → K)
    (meets : N → B → Option Bool) (platforms : BuildPlatforms B) where
  -- rules behind references, on platforms
  on_platforms : (rs : List (Bor (CompiledProfileScripts F S E T N P))) → AnswerLists f g matches rs
      → AnswerForBinaries matches
      (map (evaluated_script_rule_meaning f) (map (rule_on meets platforms) (map script_rule_ref_view rs)))
  on_platforms [] h = tt
  on_platforms (r ∷ rs) h = (h.0, on_platforms rs h.1)

  pub answers_kept : (before : List (Bor (CompiledProfileScripts F S E T N P)))
      (after : List (EvaluatedRule (CompiledProfileScripts F S E T N P)))
      → map evaluated_script_rule_view after ≡ map (rule_on meets platforms) (map script_rule_ref_view before)
      → AnswerLists f g matches before → AnswerForBinaries matches (map (meant_script_rule f) after)
  answers_kept before after same h =
      subst (AnswerForBinaries matches)
      (ap (map (evaluated_script_rule_meaning f)) (sym same)
      ∙ fused (evaluated_script_rule_meaning f) evaluated_script_rule_view after) (on_platforms before h)
