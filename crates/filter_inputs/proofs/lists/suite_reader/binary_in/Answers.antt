use Rattle.std.proofs.lemmas.Result.{IfOk-weaker}
use Rattle.serde_json.specs.Data.{Data, Members, object}
use Rattle.filter_inputs.specs.Lists.Parts.{AreSuiteParts, IsBinaryOf}
use Rattle.filter_inputs.specs.Lists.Tokens.{IsValueIn}
use Rattle.filter_inputs.proofs.lists.suite_reader.binary_in.Goals as goal

pub returns-clause-ok : goal.returns-clause-ok
returns-clause-ok c =
    let found = c.in_ok-parts.ensures.ok in
    let parts = c.in_ok-parts.parts in
    let id = c.args.id.now in
    IfOk-weaker c.binary_by_parts.result
    (λ b. (suite : Members) → AreSuiteParts suite parts.members.entries parts.tests → IsBinaryOf (id, object suite) b)
    (λ b. (suite : Data) × IsValueIn c.args.depth c.args.reader.now c.suite_parts.new.reader suite
    × IsBinaryOf (id, suite) b)
    (λ b each. (
      object found.0,
      c.in_ok-within.ensures.is found.0 c.suite_parts.new.reader found.1,
      each
          found.0 found.2,
    ))
    c.binary_by_parts.ensures
