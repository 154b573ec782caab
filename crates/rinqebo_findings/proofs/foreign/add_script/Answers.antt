use Rattle.std.proofs.Common.{◌∙◌, ap, map}
use Rattle.nextest_places.specs.Spans.Paths.{path_step}
use Rattle.rinqebo_request.specs.declared.files.places.SpanPart.TheVariants as parts
use Rattle.rinqebo_faults.specs.Paths.{script_path}
use Rattle.rinqebo_findings.specs.Later.{says_script, script_code}
use Rattle.rinqebo_findings.specs.LaterWords.{own_prefix}
use Rattle.rinqebo_findings.proofs.Later.{adds_at}
use Rattle.rinqebo_findings.proofs.foreign.add_script.Goals as goal

pub returns : goal.returns
returns c =
    let layers = c.args.refused.now.source.layers.now in
    let position = c.args.refused.now.source.position in
    let name = c.args.name.now in
    adds_at layers position parts.Key (script_code c.args.fault) _ _
    (says_script c.args.fault name (own_prefix layers position)) _ _
    (ap (map path_step) c.deref.ensures.value ∙ c.in_ok-path.ensures
    ∙ ap (λ file. script_path file name) c.tree.ensures)
    c.in_ok-add_script_at.ensures
