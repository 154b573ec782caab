use Rattle.std.proofs.Common.{◌≡◌, ◌-◌, ◌∙◌, ap, arith}
use Rattle.std.specs.Str.{chars}
use Rattle.nextest_places.specs.Spans.Positions.{position_behind, position_of}
use Rattle.nextest_places.proofs.spans.Rising.{position_fits}
use Rattle.nextest_places.proofs.spans.position.position_at.Goals as goal

pub returns-clause-fits : goal.returns-clause-fits
returns-clause-fits c =
    let whole : c.args.byte - 0 ≡ c.args.byte = omega arith in
    let is : c.end_of.result ≡ position_of c.args.unit c.args.text.now c.args.byte =
    c.end_of.ensures ∙ ap (λ xs. position_behind c.args.unit (chars xs)) c.range.ensures.value
    ∙ ap (λ n. position_of c.args.unit c.args.text.now n) whole in
    let fits = position_fits c.args.unit c.args.text.now c.args.byte c.utf8.text c.requires in
    rw is (omega (arith, fits, c.requires.0))
