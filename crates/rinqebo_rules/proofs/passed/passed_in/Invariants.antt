use Rattle.std.proofs.Common.{◌≡◌, length, map, take}
use Rattle.std.specs.List.{AllZip}
use Rattle.nextest_elements.specs.declared.run_mode.NextestRunMode.{NextestRunMode}
use Rattle.nextest_settings.specs.Profiles.SettingsOf.{AreSettingsOf}
use Rattle.nextest_settings.specs.Deciding.{QueryContext}
use Rattle.nextest_settings.specs.Profile.{EvaluatableModel}
use Rattle.nextest_elements.specs.Settings.{settings}
use Rattle.nextest_settings.specs.Settings.{is_set}
use Rattle.nextest_settings.specs.View.{meant_override}
use Rattle.rinqebo_rules.specs.Passed.{IsPassed}
use Rattle.rinqebo_rules.proofs.passed.passed_in.Given as goal

-- the settings so far are passed
abbrev pub invariant-loop-place : goal.invariant-loop-place
invariant-loop-place g l =
    let F = g.F.Filters in
    record {
      same_length : length l.counts ≡ 15;
      so_far : (query : QueryContext F.Meaning) (mode : NextestRunMode) (profile : EvaluatableModel F.Meaning)
          → profile.overrides ≡ map (meant_override F.meaning) l.rules
          → AreSettingsOf F.meaning query mode profile l.settings
          → AllZip (λ s. IsPassed query (λ w. is_set w.settings mode s) (λ w. w.id) profile.overrides)
          (take l.place settings) (take l.place l.counts);
    }
