use Rattle.std.proofs.Common.{ℕ, List, ◌∷◌, ap, map, subst, sym, ◌∙◌}
use Rattle.std.proofs.lemmas.List.{map_push}
use Rattle.std.proofs.lemmas.Result.{err_from_is_err_and}
use Rattle.std.specs.List.{flat_map}
use Rattle.serde_json.specs.Data.{Data}
use Rattle.serde_json.specs.View.{view}
use Rattle.filter_inputs.specs.Lists.Demands.{suite_demands}
use Rattle.filter_inputs.specs.Lists.ListView.{listed_view}
use Rattle.filter_inputs.specs.Lists.Lists.{IsSuiteOf}
use Rattle.filter_inputs.proofs.lists.FirstFaults.{tells_first}
use Rattle.filter_inputs.proofs.lists.ReadSuites.{suites_in, none_read, one_read, one_unmet, all_are, all_met}
use Rattle.filter_inputs.proofs.lists.suites.binaries_in.Goals as goal

pub loop-id-init : goal.loop-id-init
loop-id-init c =
    none_read c.args.suites.now.entries c.into_iter-id-iterator.result (map listed_view c.new-binaries.result.items)
    (c.into_iter-id-iterator.ensures.into_iter_gives ∙ c.iter-id-items.ensures.rest)
    (ap (map listed_view) c.new-binaries.ensures.items)

pub returns-in_err-suite-clause-err : goal.returns-in_err-suite-clause-err
returns-in_err-suite-clause-err c =
    let p = err_from_is_err_and c.from_residual.result c.from_residual.ensures.1 in
    let all = c.args.suites.now.entries in
    let s : List ℕ × Data = (c.as_str.result.now, view c.in-Some.suite.now) in
    let next = ap suites_in c.in-Some.ensures.steps
    ∙ ap (λ id. (id, view c.in-Some.suite.now) ∷ suites_in c.next.new.self) (sym c.as_str.ensures.value) in
    rw (p.1, p.2)
    (tells_first (suite_demands s) (flat_map suite_demands (suites_in all)) c.in_err-suite.field-0.0
    (λ f. one_unmet all c.loop-id.id-iterator c.next.new.self (map listed_view c.loop-id.binaries.items) s f
    c.loop-id.invariant next)
    c.in_err-suite.ensures.err)

pub loop-id-preserved : goal.loop-id-preserved
loop-id-preserved c =
    let s : List ℕ × Data = (c.as_str.result.now, view c.in-Some.suite.now) in
    let binary = c.in_ok-binary_of.field-0 in
    let next = ap suites_in c.in-Some.ensures.steps
    ∙ ap (λ id. (id, view c.in-Some.suite.now) ∷ suites_in c.next.new.self) (sym c.as_str.ensures.value) in
    one_read c.args.suites.now.entries c.loop-id.id-iterator c.next.new.self
    (map listed_view c.loop-id.binaries.items) (map listed_view c.push.new.self.items) s (listed_view binary)
    c.loop-id.invariant next
    (subst (IsSuiteOf (view c.in-Some.suite.now)) (sym c.in_ok-binary_of.ensures) c.in_ok-suite.ensures.ok)
    c.in_ok-suite.ensures.met
    (ap (map listed_view) c.in_ok-push.ensures.items ∙ map_push listed_view c.loop-id.binaries.items binary)

pub returns-clause-ok : goal.returns-clause-ok
returns-clause-ok c =
    all_are c.args.suites.now.entries c.loop-id.id-iterator (map listed_view c.loop-id.binaries.items)
    c.loop-id.invariant c.in-None.ensures.steps.0

pub returns-clause-met : goal.returns-clause-met
returns-clause-met c =
    all_met c.args.suites.now.entries c.loop-id.id-iterator (map listed_view c.loop-id.binaries.items)
    c.loop-id.invariant c.in-None.ensures.steps.0
