use Rattle.std.proofs.Common.{◌∙◌, ap, slice_get}
use Rattle.std.specs.Prelude.{option_and_then}
use Rattle.nextest_engines.specs.Engines.{test_view}
use Rattle.nextest_elements.specs.declared.setting.Setting.TheVariants.{RunExtraArgs}
use Rattle.rinqebo_session.proofs.profile.Opened.argument.Goals as goal

pub returns-clause-ok : goal.returns-clause-ok
returns-clause-ok c =
    let asked = c.in_ok-asked.asked in
    record {
      test = test_view asked.query;
      mode = asked.mode;
      is_known = c.in_ok-asked.ensures.ok;
      value = c.argument_at.ensures
          ∙ ap (option_and_then (λ arguments. slice_get arguments c.args.index))
          (c.run_extra_args-arguments.ensures ∙ c.settings_for-settings.ensures.settings.values RunExtraArgs);
    }
