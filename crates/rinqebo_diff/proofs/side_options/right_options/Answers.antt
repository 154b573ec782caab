use Rattle.rinqebo_request.specs.Lines.{line_of}
use Rattle.rinqebo_request.proofs.Choosing.{chosen_one}
use Rattle.rinqebo_diff.proofs.Requesting.{right_mode, right_profile, right_source}
use Rattle.rinqebo_diff.proofs.side_options.right_options.Goals as goal

pub returns : goal.returns
returns c environment are =
    let line = line_of c.args.matches.now in
    record {
      profile = right_profile environment line _ _ (chosen_one c.value.result _ c.unwrap_or.result _ c.unwrap_or.ensures c.value.ensures) are.profile;
      source = right_source environment line _ _ c.right_source.ensures are.source;
      mode = right_mode line _ _ c.right_mode.ensures are.mode;
      list = c.right_list.ensures are.list;
      files = c.in_ok-right_files.ensures are.files;
      engines = c.right_engines.ensures environment are.engines;
    }
