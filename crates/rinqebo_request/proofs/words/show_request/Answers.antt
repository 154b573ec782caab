use Rattle.std.proofs.Common.{refl}
use Rattle.rinqebo_request.proofs.NamedTools.{with_config}
use Rattle.rinqebo_request.proofs.words.show_request.Goals as goal

pub returns : goal.returns
returns c =
    record {
      question = (c.profile.ensures, c.in_ok-leaf_keys.ensures, c.is_on.ensures);
      words = c.in_ok-command_words.ensures;
      source = c.profile_source.ensures;
      line_is = record {
        files = with_config _ _ _ _ c.named_file.ensures c.in_ok-files.ensures;
        features = c.in_ok-features.ensures.ok;
        paper = c.paper.ensures;
      };
      engines = c.in_ok-target_engines.ensures.ok.0;
      target = c.in_ok-target_engines.ensures.ok.1;
      format = c.format.ensures;
      progress = refl;
    }
