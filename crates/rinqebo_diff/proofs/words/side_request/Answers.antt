use Rattle.std.proofs.Common.{refl}
use Rattle.rinqebo_diff.proofs.words.side_request.Goals as goal

pub returns : goal.returns
returns c own are =
    record {
      profile = are.profile;
      mode = are.mode;
      question = (are.profile, are.mode, are.list, refl);
      source = are.source;
      files = are.files;
      engines = are.engines;
      words = c.in_ok-command_words.ensures;
      features = c.in_ok-features.ensures.ok;
      format = c.side_format.ensures;
      paper = c.paper.ensures;
      progress = refl;
    }
