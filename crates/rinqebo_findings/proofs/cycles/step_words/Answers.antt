use Rattle.std.proofs.Common.{string_bytes}
use Rattle.rinqebo_findings.specs.LaterWords.{place_words}
use Rattle.rinqebo_findings.proofs.InCycles.{step_said}
use Rattle.rinqebo_findings.proofs.cycles.step_words.Goals as goal

pub returns : goal.returns
returns c =
    let source = c.args.refused.now.source in
    record {
      place = c.parent_place-place.result;
      is_place = c.parent_place-place.ensures;
      is = step_said c.args.name.now (string_bytes c.in_ok-words.words)
          (place_words source.layers.now source.position c.parent_place-place.result)
          (string_bytes c.in_ok-format.field-0) c.in_ok-format.ensures.ok c.in_ok-words.ensures;
    }
