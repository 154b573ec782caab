use Rattle.std.proofs.Common.{None, Some}
use Rattle.std.specs.Prelude.{codes}
use Rattle.std.proofs.lemmas.Str.Pattern.{split_text_parts}
use Rattle.rinqebo_faults.proofs.meant.BadLine.expected.Goals as goal

pub returns-in-Some : goal.returns-in-Some
returns-in-Some c = (
  c.in-Some._wrong.now,
  split_text_parts (codes ", expected ") c.args.self.reason.now (Some (c.in-Some._wrong, c.in-Some.expected)) c.in-Some.ensures.cases,
)

pub returns-in-None : goal.returns-in-None
returns-in-None c = split_text_parts (codes ", expected ") c.args.self.reason.now None c.in-None.ensures.cases
