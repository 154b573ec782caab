use Rattle.std.proofs.Common.{◌∷◌, [], map, ap, ◌∙◌}
use Rattle.std.proofs.lemmas.List.{map-append}
use Rattle.std.proofs.lemmas.Result.{err_from_is_err_and}
use Rattle.serde_json.specs.View.{view}
use Rattle.nextest_sources.specs.Sources.{tool_file_view}
use Rattle.rinqebo_forms.specs.Requests.{tool_in}
use Rattle.rinqebo_forms.proofs.Saying.{said_step, said_all, said_none}
use Rattle.rinqebo_forms.proofs.request.tools_in.Goals as goal

pub returns-in_err-tool : goal.returns-in_err-tool
returns-in_err-tool c =
    let p = err_from_is_err_and c.from_residual.result c.from_residual.ensures.1 in
    rw (p.1, p.2) (λ has_memory. said_none view tool_in c.args.values.now c.loop-place.place
    c.index-values-place.result c.loop-place-test.true c.index-values-place.is
    (c.in_err-tool.ensures has_memory))

pub loop-place-preserved : goal.loop-place-preserved
loop-place-preserved c =
    said_step view tool_in c.args.values.now c.loop-place.place (map tool_file_view c.loop-place.tools.items)
    (map tool_file_view c.push.new.self.items) c.index-values-place.result (tool_file_view c.in_ok-tool.tool)
    c.loop-place-test.true c.index-values-place.is c.in_ok-tool.ensures c.loop-place.invariant
    (ap (map tool_file_view) c.in_ok-push.ensures.items
    ∙ map-append tool_file_view c.loop-place.tools.items (c.in_ok-tool.tool ∷ []))

pub returns : goal.returns
returns c =
    said_all view tool_in c.args.values.now c.loop-place.place (map tool_file_view c.loop-place.tools.items)
    c.loop-place-test.false c.loop-place.invariant
