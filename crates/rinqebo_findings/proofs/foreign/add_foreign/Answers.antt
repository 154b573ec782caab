use Rattle.std.proofs.Common.{◌∙◌, ap, List, ℕ, map, option_map, Some, string_bytes, sym}
use Rattle.nextest_places.specs.Spans.Paths.{path_step}
use Rattle.rinqebo_request.specs.declared.files.places.SpanPart.TheVariants as parts
use Rattle.rinqebo_findings.specs.LaterWords.{says_foreign}
use Rattle.rinqebo_findings.proofs.Later.{adds_said}
use Rattle.rinqebo_findings.proofs.foreign.add_foreign.Goals as goal

pub returns-in_ok-add_unprefixed-in-Some : goal.returns-in_ok-add_unprefixed-in-Some
returns-in_ok-add_unprefixed-in-Some c =
    let source = c.args.refused.now.source in
    adds_said source.layers.now source.position parts.Key c.args.code (map path_step c.args.path.now) _ _ _ _
    (ap (says_foreign c.args.what.now c.args.name.now)
    (ap (λ (words : List ℕ). Some words) c.as_str.ensures.value
    ∙ ap (option_map string_bytes) (sym c.in-Some.is) ∙ c.in_ok-prefix.ensures))
    c.in_ok-add_unprefixed-in-Some.ensures

pub returns-in_ok-add_owned-in-None : goal.returns-in_ok-add_owned-in-None
returns-in_ok-add_owned-in-None c =
    let source = c.args.refused.now.source in
    adds_said source.layers.now source.position parts.Key c.args.code (map path_step c.args.path.now) _ _ _ _
    (ap (says_foreign c.args.what.now c.args.name.now)
    (ap (option_map string_bytes) (sym c.in-None.is) ∙ c.in_ok-prefix.ensures))
    c.in_ok-add_owned-in-None.ensures
