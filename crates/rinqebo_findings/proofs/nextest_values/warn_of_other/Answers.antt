use Rattle.std.proofs.Common.{◌≡◌, ◌∙◌, ap, map}
use Rattle.std.proofs.lemmas.Result.{on_ok_weaker}
use Rattle.nextest_places.specs.Spans.Paths.{path_step}
use Rattle.rinqebo_report.specs.declared.codes.code.Code.TheVariants.{UnknownKey}
use Rattle.rinqebo_findings.specs.NextestForms.{key_in, unknown}
use Rattle.rinqebo_findings.proofs.Forms.{forms_one, key_path}
use Rattle.rinqebo_findings.proofs.Warned.{warns_of}
use Rattle.rinqebo_findings.proofs.nextest_values.warn_of_other.Goals as goal

pub returns : goal.returns
returns c =
    let source = c.args.refused.now.source in
    let path = key_in (map path_step c.args.path.now) c.args.key.now in
    let at : map path_step c.deref.result.now ≡ path =
    ap (map path_step) c.deref.ensures.value ∙ key_path c.args.path.now _ c.args.key c.in_ok-at.ensures in
    on_ok_weaker c.add_noted.result
    (λ h. forms_one source.layers.now source.position (unknown path) h.0 _ _ h.1
    (warns_of source.layers.now source.position UnknownKey path h.0 c.in_ok-found.ensures h.2 h.3 at))
    c.add_noted.ensures
