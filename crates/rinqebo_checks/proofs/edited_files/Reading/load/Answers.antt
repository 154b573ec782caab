use Rattle.std.proofs.Common.{◌∙◌, ap, refl, sym}
use Rattle.nextest_rules.specs.KnownView.{features_view}
use Rattle.nextest_sources.specs.Endings.{error_view}
use Rattle.rinqebo_checks.proofs.Rounds.{same_load}
use Rattle.rinqebo_checks.proofs.edited_files.Reading.load.Goals as goal

pub returns-in-Ok : goal.returns-in-Ok
returns-in-Ok c = record {
  features = features_view c.in_ok-features.features;
  among = c.in_ok-features.ensures;
  ran = same_load _ _ _ _ _ _ _ _ _ _ c.parse_context.ensures c.inputs-inputs.ensures.features
      (c.inputs-inputs.ensures.files ∙ c.in_ok-files.ensures) c.new-warnings.ensures refl c.in-Ok.ensures.loads.ran;
  ended = tt;
}

pub returns : goal.returns
returns c = record {
  features = features_view c.in_ok-features.features;
  among = c.in_ok-features.ensures;
  ran = same_load _ _ _ _ _ _ _ _ _ _ c.parse_context.ensures c.inputs-inputs.ensures.features
      (c.inputs-inputs.ensures.files ∙ c.in_ok-files.ensures) c.new-warnings.ensures
      (ap error_view (sym c.in_ok-refusal-in-Err.ensures.same)) c.in-Err.ensures.loads.ran;
  ended = c.in_ok-refusal-in-Err.ensures.ended;
}
