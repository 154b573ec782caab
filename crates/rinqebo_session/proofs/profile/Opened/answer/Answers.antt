use Rattle.std.proofs.Common.{◌∙◌, ap, subst}
use Rattle.nextest_engines.specs.Engines.{test_view}
use Rattle.filter_engine.specs.Engine.{filter_holds}
use Rattle.nextest_settings.specs.Profiles.Meaning.{profile_meaning}
use Rattle.nextest_settings.specs.Queries.{query_in, setting_value}
use Rattle.nextest_settings.specs.SettingsView.{value_at}
use Rattle.rinqebo_forms.specs.Numbers.{flag_number}
use Rattle.rinqebo_session.specs.Answering.{AreNumbersOf}
use Rattle.rinqebo_session.specs.Readings.{filter_meaning}
use Rattle.rinqebo_session.proofs.Numbering.{numbers_by}
use Rattle.rinqebo_session.proofs.profile.Opened.answer.Goals as goal

pub returns-clause-ok : goal.returns-clause-ok
returns-clause-ok c =
    let opened = c.args.self.now in
    let asked = c.in_ok-asked.asked in
    let n = c.numbers_of.result in
    let settings = c.settings_for-settings in
    let profile = profile_meaning filter_meaning opened.profile in
    let value = value_at settings.result in
    record {
      size = c.numbers_of.ensures.size;
      test = test_view asked.query;
      mode = asked.mode;
      is_known = c.in_ok-asked.ensures.ok;
      numbers = numbers_by opened.groups.items opened.wrappers.items value
          (setting_value (query_in filter_holds profile (test_view asked.query)) asked.mode profile) n
          settings.ensures.settings.values
          (subst (λ gs. AreNumbersOf gs opened.wrappers.items value n) c.deref.ensures.value
          (subst (λ ws. AreNumbersOf c.deref.result.now ws value n) c.deref-2.ensures.value
          c.numbers_of.ensures.numbers));
      in_default_filter = c.numbers_of.ensures.filter
          ∙ ap flag_number c.is_in_default_filter-in_default_filter.ensures;
    }
