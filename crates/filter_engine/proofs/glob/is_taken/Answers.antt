use Rattle.filter_engine.proofs.RegexTexts.{are_bytes}
use Rattle.filter_engine.proofs.glob.is_taken.Goals as goal

pub returns : goal.returns
returns c =
    λ text is.
    rw (c.has_match.ensures, c.as_bytes.ensures.value)
    (is c.args.name.now (are_bytes c.args.name.now c.type_inv.name))
