use Rattle.std.proofs.Common.{codes, refl}
use Rattle.rinqebo_request.specs.Lines.{line_of}
use Rattle.rinqebo_diff.proofs.Requesting.{of_right}
use Rattle.rinqebo_diff.proofs.RightLines.{right_value}
use Rattle.rinqebo_diff.proofs.side_options.right_files.Goals as goal

pub returns : goal.returns
returns c are =
    let line = line_of c.args.matches.now in
    record {
      root = of_right (codes "to-root") (codes "root") line _ _ (right_value (codes "to-root") (codes "root") line refl refl) c.own_or.ensures are.root;
      config_file = c.right_config_file.ensures are.config_file;
      organisation = of_right (codes "to-organisation-config-file") (codes "organisation-config-file") line _ _
          (right_value (codes "to-organisation-config-file") (codes "organisation-config-file") line refl refl) c.own_or-2.ensures are.organisation;
      tools = c.in_ok-right_tools.ensures are.tools;
    }
