use Rattle.std.proofs.Common.{map, refl, subst}
use Rattle.nextest_places.specs.Spans.Paths.{path_step}
use Rattle.rinqebo_findings.specs.Later.{in_text}
use Rattle.rinqebo_findings.specs.LaterWords.{SaysOfText}
use Rattle.rinqebo_findings.specs.Words.{words_of}
use Rattle.rinqebo_findings.proofs.Later.{adds_one}
use Rattle.rinqebo_findings.proofs.expressions.add_part.Goals as goal

pub returns : goal.returns
returns c =
    let source = c.args.refused.now.source in
    let text = c.args.text.now in
    let span = c.args.span.now in
    adds_one source.layers.now source.position (in_text c.args.code (map path_step c.args.path.now) text span) _ _ _
    c.in_ok-add_finding.ensures
    (record {
      steps = c.args.path.now;
      are = refl;
      about = c.in_ok-found.ensures.about;
      place = c.in_ok-found.ensures.place;
      shown = c.in_ok-shown.shown;
      shows = refl;
      expression = c.in_ok-shown.ensures;
      says = subst (λ label. SaysOfText c.args.code text label span.bytes.start (words_of c.in_ok-found.found))
          c.as_str.ensures.value c.in_ok-found.ensures.words;
    })
