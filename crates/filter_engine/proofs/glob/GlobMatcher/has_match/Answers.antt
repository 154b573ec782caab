use Rattle.std.proofs.Common.{◌∙◌, sym}
use Rattle.filter_engine.proofs.GlobParts.{plain_is_equality}
use Rattle.filter_engine.proofs.glob.GlobMatcher.has_match.Goals as goal

pub returns-in-None : goal.returns-in-None
returns-in-None c =
    let plain = rw (c.in-None.is, c.self.view_is) at c.self.invariant in
    let takes = plain_is_equality c.args.self.now c.args.name.now plain in
    let text = c.as_str.ensures.value ∙ c.self.view_is in (
      λ same. takes.1 (c.is_same.ensures.0 same ∙ text),
      λ taken. c.is_same.ensures.1 (takes.0 taken ∙ sym text),
    )

pub returns-in-Some : goal.returns-in-Some
returns-in-Some c =
    c.is_taken.ensures c.args.self.now (rw (c.in-Some.is, c.self.view_is) at c.self.invariant)
