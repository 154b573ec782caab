use Rattle.std.proofs.Common.{refl}
use Rattle.rinqebo_request.proofs.NamedTools.{with_config}
use Rattle.rinqebo_request.proofs.check_words.check_request.Goals as goal

pub returns : goal.returns
returns c =
    record {
      question = c.in_ok-denies_warnings.ensures;
      words = c.in_ok-command_words.ensures;
      source = refl;
      line_is = record {
        files = with_config _ _ _ _ c.in_ok-checked_file.ensures c.in_ok-files.ensures;
        features = c.in_ok-features.ensures.ok;
        paper = c.paper.ensures;
      };
      engines = c.file_engines.ensures;
      format = c.format.ensures;
      progress = refl;
    }
