use Rattle.std.proofs.Common.{◌∙◌, ◌++◌, ap, codes, string_bytes}
use Rattle.rinqebo_findings.proofs.cycles.cycle_words.Goals as goal

pub returns : goal.returns
returns c =
    let steps = string_bytes c.in_ok-steps.steps in
    record {
      steps = steps;
      are = c.in_ok-steps.ensures;
      is = c.in_ok-format.ensures.ok
          ∙ ap (λ first. codes "profiles inherit in a cycle: " ++ (steps ++ first)) c.in_ok-first.ensures;
    }
