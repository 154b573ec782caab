use Rattle.std.proofs.Common.{subst}
use Rattle.rinqebo_findings.specs.Warnings.{IsPositionOf}
use Rattle.rinqebo_findings.proofs.load_warnings.findings_of.Goals as goal

pub returns : goal.returns
returns c =
    record {
      position = c.place_of-position.result;
      is = subst (λ source. IsPositionOf c.args.layers.now source c.place_of-position.result) c.source_of.ensures
          c.place_of-position.ensures;
      reports = c.in_ok-findings_at.ensures;
    }
