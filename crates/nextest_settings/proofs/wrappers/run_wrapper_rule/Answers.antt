use Rattle.std.proofs.Common.{◌≡◌, true, ◌∙◌, ap, sym, subst, option_map, IfSome, IsSome, ℕ, Some, slice_get, ◌∷◌, [], ◌++◌}
use Rattle.nextest_settings.specs.Engines.{test_query_by}
use Rattle.nextest_settings.specs.Index.{names_wrapper}
use Rattle.nextest_settings.specs.View.{meant_script_rule, script_rule_ref_view}
use Rattle.nextest_settings.specs.declared.index.Wrapper.TheVariants as wrappers
use Rattle.nextest_settings.proofs.Listed.{winner-seen, all-told, met, listed, found-among, found-passes}
use Rattle.nextest_settings.proofs.Wrapped.{head-found, writes-it, if-some}
use Rattle.nextest_settings.proofs.wrappers.run_wrapper_rule.Goals as goal

pub walk_rows-requires-clause-answers : goal.walk_rows-requires-clause-answers
walk_rows-requires-clause-answers g c = λ k r at listed. tt

pub returns-clause-rule : goal.returns-clause-rule
returns-clause-rule g c =
    let F = g.F.Filters in
    let query = test_query_by F c.args.cx.now.default_filter.now c.args.query.now in
    ap (option_map (meant_script_rule F.meaning)) (head-found _ _ _ c.walk_rows.ensures.found)
    ∙ winner-seen (meant_script_rule F.meaning) names_wrapper query wrappers.Run c.args.rules.now

pub returns-clause-tally : goal.returns-clause-tally
returns-clause-tally g c =
    let F = g.F.Filters in
    let query = test_query_by F c.args.cx.now.default_filter.now c.args.query.now in
    c.walk_rows.ensures.tally
    ∙ ap (λ l. g.F.Tally.Tally.numbers c.args.tally.now ++ l)
    (all-told (meant_script_rule F.meaning) names_wrapper query (wrappers.Run ∷ []) c.args.first c.args.rules.now)

pub returns-clause-member : goal.returns-clause-member
returns-clause-member g c =
    let F = g.F.Filters in
    let query = test_query_by F c.args.cx.now.default_filter.now c.args.query.now in
    subst (λ o. IfSome o (λ r. (n : ℕ) × (slice_get c.args.rules.now n ≡ Some r)))
    (sym (head-found _ _ _ c.walk_rows.ensures.found))
    (found-among (met (meant_script_rule F.meaning) names_wrapper query)
    (listed (meant_script_rule F.meaning) names_wrapper query wrappers.Run) c.args.rules.now)

pub returns-clause-named : goal.returns-clause-named
returns-clause-named g c =
    let F = g.F.Filters in
    let query = test_query_by F c.args.cx.now.default_filter.now c.args.query.now in
    subst (λ o. IfSome o (λ r. IsSome (script_rule_ref_view r.rule).writes.scripts.run_wrapper))
    (sym (head-found _ _ _ c.walk_rows.ensures.found))
    (if-some (λ r. listed (meant_script_rule F.meaning) names_wrapper query wrappers.Run r ≡ true)
    (λ r. IsSome (script_rule_ref_view r.rule).writes.scripts.run_wrapper) _ (λ r e. writes-it _ _ e)
    (found-passes (met (meant_script_rule F.meaning) names_wrapper query)
    (listed (meant_script_rule F.meaning) names_wrapper query wrappers.Run) c.args.rules.now))
