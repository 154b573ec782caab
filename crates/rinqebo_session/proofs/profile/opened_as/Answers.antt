use Rattle.std.proofs.Common.{◌∙◌, ap, sym}
use Rattle.nextest_settings.proofs.KnowsScripts.{fused}
use Rattle.nextest_scripts.specs.ScriptId.{script_text}
use Rattle.nextest_scripts.specs.ScriptTexts.{wrapper_script_view}
use Rattle.nextest_tables.specs.FileTexts.{names_in}
use Rattle.rinqebo_session.proofs.profile.opened_as.Goals as goal

pub evaluated-requires : goal.evaluated-requires
evaluated-requires c = c.requires

pub objects_of-requires : goal.objects_of-requires
objects_of-requires c = c.requires

pub returns : goal.returns
returns c = record {
  known = c.requires;
  is_profile = c.in_ok-profile.ensures;
  groups = c.in_ok-groups.ensures ∙ c.test_group_config.ensures;
  wrappers = c.in_ok-wrappers.ensures
      ∙ sym (fused (λ e. e.0) (λ e. (script_text e.0, wrapper_script_view e.1))
      c.script_config.result.now.wrapper.entries)
      ∙ ap (λ scripts. names_in scripts.wrapper) c.script_config.ensures;
  for_host = c.of-for_host.ensures;
  for_target = c.of-for_target.ensures;
  objects = c.in_ok-objects.ensures;
}
