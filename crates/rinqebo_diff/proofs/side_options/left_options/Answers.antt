use Rattle.rinqebo_request.proofs.NamedTools.{with_config}
use Rattle.rinqebo_diff.proofs.side_options.left_options.Goals as goal

pub returns : goal.returns
returns c =
    record {
      profile = c.profile.ensures;
      source = c.profile_source.ensures;
      mode = c.mode.ensures;
      list = c.left_list.ensures;
      files = with_config _ _ _ _ c.named_file.ensures c.in_ok-files.ensures;
      engines = c.engines.ensures;
    }
