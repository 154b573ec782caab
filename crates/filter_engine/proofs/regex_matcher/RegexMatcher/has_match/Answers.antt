use Rattle.filter_engine.proofs.RegexTexts.{are_bytes}
use Rattle.filter_engine.proofs.regex_matcher.RegexMatcher.has_match.Goals as goal

pub returns : goal.returns
returns c =
    rw (c.has_match.ensures, c.as_bytes.ensures.value, ← c.self.view_is)
    (c.self.invariant c.args.name.now (are_bytes c.args.name.now c.type_inv.name))
