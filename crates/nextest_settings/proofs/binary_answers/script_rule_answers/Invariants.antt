use Rattle.std.proofs.Common.{◌≡◌, map, take}
use Rattle.nextest_engines.specs.Engines.{binary_view}
use Rattle.nextest_settings.specs.Binaries.{binary_answer}
use Rattle.nextest_settings.specs.View.{meant_script_rule}
use Rattle.nextest_settings.proofs.binary_answers.script_rule_answers.Given as goal

abbrev pub invariant-loop-number : goal.invariant-loop-number
invariant-loop-number g l =
    let F = g.F.Filters in
    l.answers.items ≡ map (binary_answer F.holds_binary (F.meaning l.cx.default_filter.now) (binary_view l.query))
    (map (meant_script_rule F.meaning) (take l.number l.rules))
