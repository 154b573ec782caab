use Rattle.std.proofs.Common.{◌≡◌, Bool, List, Option, map}
use Rattle.nextest_engines.specs.Engines.{Binary}
use Rattle.nextest_settings.specs.Binaries.{binary_answer}
use Rattle.nextest_settings.specs.View.{meant_override, meant_script_rule}
use Rattle.nextest_settings.proofs.binary_answers.BinaryAnswers.of.Goals as goal

-- the answers at a binary are those at an equal one
at_kept : {E R : Type 0} (answer : Binary → R → Option Bool) (meant : E → R) (answers : List (Option Bool))
    (seen rules : List E) (here kept : Binary) → answers ≡ map (answer here) (map meant seen) → seen ≡ rules
    → kept ≡ here → answers ≡ map (answer kept) (map meant rules)
at_kept answer meant answers seen rules here kept are same is = cc

pub returns-clause-answers : goal.returns-clause-answers
returns-clause-answers g c =
    let F = g.F.Filters in
    let default = F.meaning c.args.rules.now.default_filter.expr.now in (
      at_kept (binary_answer F.holds_binary default) (meant_override F.meaning) _ _ _ _ _ c.in_ok-overrides.ensures
          c.deref.ensures.value c.in_ok-binary.ensures,
      at_kept (binary_answer F.holds_binary default) (meant_script_rule F.meaning) _ _ _ _ _
          c.in_ok-script_rules.ensures c.deref-2.ensures.value c.in_ok-binary.ensures,
    )
