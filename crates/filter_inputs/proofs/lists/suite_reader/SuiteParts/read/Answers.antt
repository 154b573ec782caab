use Rattle.std.proofs.Common.{◌≡◌, Some, codes, sym, subst, ◌∙◌}
use Rattle.std.proofs.lemmas.Slice.Eq.{bytes_eq-Decides}
use Rattle.serde_json.specs.Data.{object, put}
use Rattle.filter_inputs.specs.Lists.Parts.{AreSuiteParts}
use Rattle.filter_inputs.proofs.lists.Entries.{differ_by}
use Rattle.filter_inputs.proofs.lists.Parts.{suite_put, suite_tests}
use Rattle.filter_inputs.proofs.lists.suite_reader.SuiteParts.read.Goals as goal

pub returns-then-eq-clause-ok : goal.returns-then-eq-clause-ok
returns-then-eq-clause-ok c =
    let key = c.args.key.now in
    let same : key ≡ codes "testcases" =
    (bytes_eq-Decides key (codes "testcases")).0 (sym c.eq.ensures ∙ c.if-eq.true) in
    let found = c.in_ok-tests.ensures.ok in
    let es = c.args.self.members.entries in (
      object found.0,
      found.1,
      λ suite are.
          subst (λ name. AreSuiteParts (put name (object found.0) suite) es (Some c.in_ok-tests.tests)) (sym same)
          (suite_tests suite found.0 es c.args.self.tests c.in_ok-tests.tests found.2 are),
    )

pub returns-clause-ok : goal.returns-clause-ok
returns-clause-ok c =
    let key = c.args.key.now in
    let apart = differ_by key (codes "testcases") (sym c.eq.ensures ∙ c.if-eq.false) in
    let found = c.in_ok-members.ensures.ok in (
      found.0,
      found.1,
      λ suite are.
          suite_put key found.0 suite c.args.self.members.entries c.in_ok-members.members.entries
          c.args.self.tests apart found.2 are,
    )
