use Rattle.rinqebo_findings.proofs.load_warnings.unknown_key.Goals as goal

pub returns : goal.returns
returns c =
    record {
      steps = c.deref.result.now;
      warns = record {
        about = c.in_ok-unknown_key_at.ensures.about;
        place = c.in_ok-unknown_key_at.ensures.place;
      };
      words = c.in_ok-unknown_key_at.ensures.words;
    }
