use Rattle.std.proofs.Common.{◌∙◌, None, ap}
use Rattle.rinqebo_findings.specs.LaterWords.{plain_words}
use Rattle.rinqebo_findings.proofs.LaterWords.{said_help}
use Rattle.rinqebo_findings.proofs.expressions.labelled_finding.Goals as goal

pub returns : goal.returns
returns c =
    let label = c.args.stopped.label.now in
    record {
      about = c.in_ok-shown.ensures.about ∙ c.in_ok-found.ensures.about;
      place = record {
        value = c.in_ok-found.found.place;
        value_is = c.in_ok-found.ensures.place;
        same = c.in_ok-shown.ensures.place;
      };
      words = said_help c.in_ok-shown.shown label c.in_ok-help.help
          (c.in_ok-shown.ensures.words ∙ c.in_ok-found.ensures.words)
          ∙ ap (plain_words label None) (c.in_ok-help.ensures ∙ c.filter_help.ensures);
    }
