use Rattle.std.proofs.Common.{◌∙◌, subst, sym}
use Rattle.std.proofs.lemmas.Result.{on_ok_weaker}
use Rattle.rinqebo_report.specs.declared.codes.code.Code.TheVariants.{MissingKey}
use Rattle.rinqebo_request.specs.declared.files.places.SpanPart.TheVariants as parts
use Rattle.rinqebo_findings.specs.Placed.{IsPlacedAt}
use Rattle.rinqebo_findings.proofs.Forms.{forms_at}
use Rattle.rinqebo_findings.proofs.nextest_archives.add_missing.Goals as goal

pub returns : goal.returns
returns c =
    let source = c.args.refused.now.source in
    let path = c.args.path.now in
    on_ok_weaker c.add_noted.result
    (λ h. forms_at source.layers.now source.position parts.Value MissingKey path h.0 _ _
    (h.2 ∙ c.in_ok-found.ensures.about)
    (subst (IsPlacedAt parts.Value source.layers.now source.position path) (sym h.3) c.in_ok-found.ensures.place) h.1)
    c.add_noted.ensures
