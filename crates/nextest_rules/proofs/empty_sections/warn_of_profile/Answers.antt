use Rattle.std.proofs.Common.{◌≡◌, filter, length, map, sym, ap, ◌∙◌, subst}
use Rattle.nextest_sources.proofs.Runs.{ran_warned}
use Rattle.nextest_sources.specs.Endings.{Ran, passed}
use Rattle.nextest_sources.specs.Sources.{source_view}
use Rattle.nextest_sources.specs.Warnings.{empty_sections}
use Rattle.nextest_rules.specs.Meaning.{script_rule_meaning}
use Rattle.nextest_rules.specs.RuleFaults.{names_none}
use Rattle.nextest_rules.specs.View.{script_rule_view}
use Rattle.nextest_rules.proofs.Composing.{ran_failed}
use Rattle.nextest_rules.proofs.Emptying.{warned_of}
use Rattle.nextest_rules.proofs.empty_sections.warn_of_profile.Goals as goal

pub returns-in_err-empty_script_sections : goal.returns-in_err-empty_script_sections
returns-in_err-empty_script_sections g c =
    ran_failed _ _ _ c.from_residual.result c.from_residual.ensures.1 c.in_err-empty_script_sections.ensures.err

pub returns : goal.returns
returns g c =
    let s = source_view c.args.source.now in
    let n = c.count_empty-count.result in
    let rules = filter (λ r. names_none r.writes.scripts)
    (map (script_rule_meaning g.F.Filters.meaning g.S.Specs.spec_meaning)
    (map script_rule_view c.args.profile.now.scripts.items)) in
    let count : n ≡ length rules = c.count_empty-count.ensures ∙ ap (λ xs. length (filter (λ r. names_none r.writes.scripts)
    (map (script_rule_meaning g.F.Filters.meaning g.S.Specs.spec_meaning) (map script_rule_view xs))))
    c.deref.ensures.value in
    subst (λ steps. Ran steps (g.W.ConfigWarnings.warnings c.args.warnings.now)
    (g.W.ConfigWarnings.warnings c.empty_script_sections.new.self) passed)
    (sym (warned_of (empty_sections s c.args.name.now) n rules count c.if-count-eq0.false))
    (ran_warned (empty_sections s c.args.name.now n) _ _ c.in_ok-empty_script_sections.ensures.ok)
