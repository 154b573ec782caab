use Rattle.std.proofs.Common.{◌∷◌, [], None, map, subst}
use Rattle.std.specs.Prelude.{OnOk}
use Rattle.nextest_places.specs.Spans.Paths.{path_step}
use Rattle.rinqebo_request.specs.declared.files.places.SpanPart.TheVariants as parts
use Rattle.rinqebo_findings.specs.Later.{AddsLater, at}
use Rattle.rinqebo_findings.specs.LaterWords.{says}
use Rattle.rinqebo_findings.proofs.expressions.add_text.Goals as goal

pub returns-in-None : goal.returns-in-None
returns-in-None c =
    let source = c.args.refused.now.source in
    rw c.in-None.is (subst
    (λ message. OnOk c.add_fault.result (AddsLater source.layers.now source.position
    (at parts.Value c.args.code (map path_step c.args.path.now) (says message None None) ∷ [])
    c.args.findings.now.items c.add_fault.new.findings.items))
    c.as_str-wrong.ensures.value c.add_fault.ensures)
