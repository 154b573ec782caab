use Rattle.std.proofs.Common.{None, Some, subst}
use Rattle.rinqebo_findings.specs.LaterWords.{AreTableWords}
use Rattle.rinqebo_findings.proofs.expressions.stopped_finding.Goals as goal

pub returns-in_ok-worded_finding-in-Some-clause-words : goal.returns-in_ok-worded_finding-in-Some-clause-words
returns-in_ok-worded_finding-in-Some-clause-words c =
    let stopped = c.args.stopped in
    record {
      table = Some c.in-Some.worded;
      are = subst (AreTableWords c.args.code stopped.text.now stopped.label.now stopped.start) c.in-Some.is
          c.in_ok-worded.ensures;
      says = c.in_ok-worded_finding-in-Some.ensures.words;
    }

pub returns-in_ok-labelled_finding-in-None-clause-words : goal.returns-in_ok-labelled_finding-in-None-clause-words
returns-in_ok-labelled_finding-in-None-clause-words c =
    let stopped = c.args.stopped in
    record {
      table = None;
      are = subst (AreTableWords c.args.code stopped.text.now stopped.label.now stopped.start) c.in-None.is
          c.in_ok-worded.ensures;
      says = c.in_ok-labelled_finding-in-None.ensures.words;
    }
