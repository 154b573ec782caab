use Rattle.std.proofs.Common.{◌∙◌, None, ap, codes, cond, refl, sym}
use Rattle.rinqebo_request.specs.Lines.{line_of}
use Rattle.rinqebo_diff.specs.RightLine.{is_given}
use Rattle.rinqebo_diff.proofs.Requesting.{of_right}
use Rattle.rinqebo_diff.proofs.RightLines.{right_output, right_value}
use Rattle.rinqebo_diff.proofs.side_options.right_engines.Goals as goal

pub returns : goal.returns
returns c environment are =
    let line = line_of c.args.matches.now in
    record {
      host = of_right (codes "to-host") (codes "host") line _ _ (right_value (codes "to-host") (codes "host") line refl refl) c.own_or.ensures are.host;
      rustc_version = c.right_compiler.ensures ∙ ap (λ left. cond (is_given (codes "to-host") line) None left) are.rustc_version ∙ sym (right_output line);
      target = of_right (codes "to-target") (codes "target") line _ _ (right_value (codes "to-target") (codes "target") line refl refl) c.own_or-2.ensures
          are.target;
      build_target = are.build_target;
      host_cfg = of_right (codes "to-host-cfg") (codes "host-cfg") line _ _ (right_value (codes "to-host-cfg") (codes "host-cfg") line refl refl)
          c.own_or-3.ensures are.host_cfg;
      target_cfg = of_right (codes "to-target-cfg") (codes "target-cfg") line _ _
          (right_value (codes "to-target-cfg") (codes "target-cfg") line refl refl) c.own_or-4.ensures are.target_cfg;
      metadata = of_right (codes "to-metadata") (codes "metadata") line _ _ (right_value (codes "to-metadata") (codes "metadata") line refl refl)
          c.own_or-5.ensures are.metadata;
    }
