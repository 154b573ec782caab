use Rattle.std.proofs.Common.{◌∙◌, ap, refl}
use Rattle.filter_language.proofs.Cuts.{front_is}
use Rattle.filter_language.proofs.reading.texts.front.Goals as goal

pub returns : goal.returns
returns c =
    ap (λ r. r.now) c.unwrap_or.ensures
    ∙ front_is c.args.text.now c.args.rest.now c.strip_suffix.result c.args.text refl c.strip_suffix.ensures.cases
