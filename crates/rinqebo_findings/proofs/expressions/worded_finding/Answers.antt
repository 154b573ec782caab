use Rattle.std.proofs.Common.{◌∙◌, ap, option_map, string_bytes}
use Rattle.rinqebo_findings.specs.LaterWords.{plain_words}
use Rattle.rinqebo_findings.proofs.LaterWords.{said_with}
use Rattle.rinqebo_findings.proofs.expressions.worded_finding.Goals as goal

pub returns : goal.returns
returns c =
    let worded = c.args.worded in
    record {
      about = c.in_ok-shown.ensures.about ∙ c.in_ok-found.ensures.about;
      place = record {
        value = c.in_ok-found.found.place;
        value_is = c.in_ok-found.ensures.place;
        same = c.in_ok-shown.ensures.place;
      };
      words = said_with c.in_ok-shown.shown _ worded.expected worded.help
          (c.in_ok-shown.ensures.words ∙ c.in_ok-found.ensures.words)
          ∙ ap (λ message. plain_words message (option_map string_bytes worded.expected) (option_map string_bytes worded.help))
          c.as_str.ensures.value;
    }
