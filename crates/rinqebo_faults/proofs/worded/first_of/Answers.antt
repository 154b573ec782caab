use Rattle.std.proofs.Common.{◌∙◌, ap}
use Rattle.rinqebo_faults.proofs.FirstChars.{first_is}
use Rattle.rinqebo_faults.specs.Worded.{first_of}
use Rattle.rinqebo_faults.proofs.worded.first_of.Goals as goal

pub returns-in-Some : goal.returns-in-Some
unfolding first_of
returns-in-Some c =
    ap (λ r. r.now) c.unwrap_or.ensures
    ∙ first_is c.args.text.now c.chars.result c.next.new.self c.in-Some.c c.len_utf8.result c.get.result _
    c.utf8.text c.chars.ensures.rest c.in-Some.ensures.steps c.len_utf8.ensures.value c.get.ensures.cases
