use Rattle.std.proofs.Common.{◌∙◌, IfOk, ap, map, subst}
use Rattle.filter_language.specs.Filtersets.{marks_view}
use Rattle.nextest_engines.specs.Engines.{binary_view}
use Rattle.filter_engine.specs.Compiling.{names_of}
use Rattle.filter_engine.specs.Engine.{filter_holds, filter_holds_binary}
use Rattle.nextest_settings.specs.Profiles.Meaning.{profile_meaning}
use Rattle.rinqebo_rules.specs.Scripts.{AreScriptsReported}
use Rattle.filter_inputs.specs.Lists.ListView.{list_view}
use Rattle.filter_inputs.specs.Lists.Lists.{all_tests}
use Rattle.rinqebo_results.proofs.list_scripts.scripts_by_used.Goals as goal

pub returns : goal.returns
returns c = λ mode are.
    let tests = all_tests (list_view c.args.session.now.tests) in
    let profile = profile_meaning (marks_view names_of) c.args.profile.now in
    subst (λ binaries. IfOk c.scripts_by.result
    (AreScriptsReported filter_holds filter_holds_binary profile tests binaries))
    (ap (map binary_view) c.deref.ensures.value ∙ c.in_ok-binaries.ensures) (c.scripts_by.ensures tests mode are)
