use Rattle.std.proofs.Common.{◌∙◌, length, sym}
use Rattle.std.proofs.lemmas.Bool.{eqb-true}
use Rattle.std.proofs.lemmas.List.{nil_from_length}
use Rattle.rinqebo_load.proofs.Causes.{blank}
use Rattle.rinqebo_load.proofs.triples.is_blank.Goals as goal

pub returns : goal.returns
returns c =
    λ is.
    let trimmed = c.trim.result.now in
    blank c.args.text.now trimmed c.trim.ensures.value
    (nil_from_length trimmed (eqb-true (length trimmed) 0 (sym c.is_empty.ensures ∙ is)))
