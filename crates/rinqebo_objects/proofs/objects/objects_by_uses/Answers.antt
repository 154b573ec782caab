use Rattle.std.proofs.Common.{◌∙◌, Bor, ap, ap₂, map, option_map, string_bytes, subst}
use Rattle.nextest_engines.specs.Engines.{binary_view, test_view}
use Rattle.nextest_scripts.specs.ScriptId.{script_text}
use Rattle.nextest_scripts.specs.declared.script_id.ScriptId.{ScriptId}
use Rattle.nextest_settings.specs.Profiles.Meaning.{profile_meaning}
use Rattle.nextest_sources.specs.WarningsView.{warnings_view}
use Rattle.nextest_tables.specs.Written.{Name}
use Rattle.serde_json.specs.View.{view}
use Rattle.rinqebo_objects.specs.Objects.{AreObjectsOf}
use Rattle.rinqebo_objects.specs.Scripts.{directories_view}
use Rattle.rinqebo_objects.specs.Uses.{enabling_by}
use Rattle.rinqebo_objects.proofs.KnownUses.{used_same}
use Rattle.rinqebo_objects.proofs.objects.objects_by_uses.Goals as goal

pub returns-clause-objects : goal.returns-clause-objects
returns-clause-objects g c = λ are.
    let F = g.F.Filters in
    let facts = c.args.profile.now.facts in
    let filter = c.args.profile.now.default_filter.text in
    let profiles = map string_bytes c.args.around.profiles.now in
    let warnings = warnings_view c.args.around.warnings.now in
    let directories = directories_view c.args.around.directories in
    let origins = option_map (λ origins. origins.now) c.args.around.origins in
    let meant = profile_meaning F.meaning c.args.profile.now in
    let list = c.args.list in
    let known = c.known_use-known.result in
    let is = c.known_use-known.ensures in
    let text : Bor ScriptId → Name = λ id. script_text id.now in
    subst (λ used. AreObjectsOf facts filter profiles warnings directories used origins (view c.in_ok-objects.objects.value))
    (used_same F.holds meant F.holds_binary (map test_view list.tests.now) (map binary_view list.binaries.now)
    c.args.uses.now (enabling_by known.uses.now (map test_view known.tests.now)) (map text known.wrappers.now) are
    (λ id. ap₂ (λ uses tests. enabling_by uses (map test_view tests) id) is.uses is.tests)
    (ap (map text) (is.wrappers ∙ c.deref.ensures.value) ∙ c.in_ok-wrappers.ensures.wrappers))
    c.in_ok-objects.ensures
