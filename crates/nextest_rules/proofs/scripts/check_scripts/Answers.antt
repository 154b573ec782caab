use Rattle.std.proofs.Common.{◌≡◌, Some, not, sym, ap, ◌∙◌}
use Rattle.std.specs.BTreeSet.{contains_text}
use Rattle.nextest_sources.specs.Causes.{bad_scripts}
use Rattle.nextest_sources.specs.Errors.{script_errors_view}
use Rattle.nextest_sources.specs.InputFaults.{fault_at_source}
use Rattle.nextest_sources.specs.Sources.{source_view}
use Rattle.nextest_rules.specs.Known.{known_scripts}
use Rattle.nextest_rules.specs.KnownView.{known_view}
use Rattle.nextest_rules.specs.RuleFaults.{script_faults_in}
use Rattle.nextest_rules.specs.Steps.{are_none, if_true}
use Rattle.nextest_rules.specs.View.{order_view}
use Rattle.nextest_rules.proofs.Telling.{told_at}
use Rattle.nextest_rules.proofs.scripts.check_scripts.Goals as goal

pub returns-then-are_none : goal.returns-then-are_none
returns-then-are_none g c =
    let faults = script_faults_in g.F.Filters.leaves (known_view c.args.known.now)
    (order_view g.F.Filters.meaning g.S.Specs.spec_meaning c.args.order.now) in
    let cause = bad_scripts faults (known_scripts (known_view c.args.known.now)) in
    ap (λ b. fault_at_source (source_view c.args.source.now) (if_true cause (not b)))
    (ap are_none (sym c.in_ok-errors.ensures) ∙ sym c.are_none.ensures ∙ c.if-are_none.true)

pub returns : goal.returns
returns g c =
    let faults = script_faults_in g.F.Filters.leaves (known_view c.args.known.now)
    (order_view g.F.Filters.meaning g.S.Specs.spec_meaning c.args.order.now) in
    let known = known_scripts (known_view c.args.known.now) in
    let ids : contains_text c.in_ok-known_scripts.known_scripts ≡ known = λ i q. c.in_ok-known_scripts.ensures q i in
    told_at (source_view c.args.source.now) _
    (bad_scripts (script_errors_view c.in_ok-errors.errors)
    (contains_text c.in_ok-known_scripts.known_scripts)) c.at.result
    (ap (λ b. if_true (bad_scripts faults known) (not b))
    (ap are_none (sym c.in_ok-errors.ensures) ∙ sym c.are_none.ensures ∙ c.if-are_none.false)
    ∙ (λ i. Some (bad_scripts (sym c.in_ok-errors.ensures i) (sym ids i))))
    c.at.ensures
