use Rattle.std.proofs.Common.{codes}
use Rattle.std.proofs.lemmas.Result.{err_from_is_err_and}
use Rattle.serde_json.specs.Find.{get}
use Rattle.serde_json.specs.View.{view}
use Rattle.filter_inputs.specs.Lists.Demands.{build_demands, demands, suites_demands}
use Rattle.filter_inputs.proofs.lists.FirstFaults.{fault_before, tells_first}
use Rattle.filter_inputs.proofs.lists.text.tests_in.Goals as goal

pub returns-in_err-triples-clause-err : goal.returns-in_err-triples-clause-err
returns-in_err-triples-clause-err c =
    let document = view c.args.document.now in
    let p = err_from_is_err_and c.from_residual.result c.from_residual.ensures.1 in
    rw (p.1, p.2)
    (tells_first (build_demands document) (demands document) c.in_err-triples.field-0.0
    (λ f. fault_before (build_demands document) (suites_demands (get (codes "rust-suites") document)) f)
    c.in_err-triples.ensures.err)
