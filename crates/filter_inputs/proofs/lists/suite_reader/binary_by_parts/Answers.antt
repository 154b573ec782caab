use Rattle.std.proofs.Common.{◌≡◌, Some, None, codes, string_bytes, sym, ap, subst, ◌∙◌, rules, arith}
use Rattle.serde_json.specs.Data.{object, no_members, put}
use Rattle.serde_json.specs.View.{members_view, view}
use Rattle.serde_json.specs.declared.value.Value.{Object}
use Rattle.serde_json.proofs.Views.{view-Object, members_view-insert_entry}
use Rattle.filter_inputs.specs.Lists.Demands.{first_fault, suite_demands}
use Rattle.filter_inputs.specs.Lists.Lists.{IsSuiteOf}
use Rattle.filter_inputs.specs.Lists.ListView.{listed_view}
use Rattle.filter_inputs.specs.Lists.Parts.{AreSuiteParts}
use Rattle.filter_inputs.proofs.lists.Parts.{binary_of_parts}
use Rattle.filter_inputs.proofs.lists.suite_reader.binary_by_parts.Goals as goal

pub returns : goal.returns
returns c =
    let es = c.args.parts.members.entries in
    let after = c.insert.new.self in
    let tests = c.in_ok-tests.tests in
    let has : c.args.parts.tests ≡ Some tests = grind arith in
    let copied : string_bytes c.in_ok-key.key ≡ codes "testcases" = search rules in
    let none : view (Object c.new.result) ≡ object no_members =
    view-Object c.new.result ∙ ap (λ es. object (members_view es)) c.new.ensures.empty in
    let inserted : members_view after.entries ≡ put (codes "testcases") (object no_members) (members_view es) =
    ap members_view c.in_ok-insert.ensures.entries ∙ members_view-insert_entry es c.in_ok-key.key (Object c.new.result)
    ∙ ap (λ name. put name (view (Object c.new.result)) (members_view es)) copied
    ∙ ap (λ d. put (codes "testcases") d (members_view es)) none in
    let whole = view-Object after in
    let is = subst (λ d. IsSuiteOf d (listed_view c.in_ok-binary.binary)) whole
    (subst (IsSuiteOf (view (Object after))) (sym c.in_ok-binary.ensures) c.in_ok-found.ensures.ok) in
    let met = subst (λ d. first_fault (suite_demands (c.args.id.now, d)) ≡ None) whole c.in_ok-found.ensures.met in
    λ suite are.
    binary_of_parts c.args.id.now suite es after.entries tests (listed_view c.in_ok-binary.binary)
    (subst (AreSuiteParts suite es) has are) inserted is met
