use Rattle.std.proofs.Common.{IfOk, map, option_map, string_bytes, subst, sym}
use Rattle.nextest_settings.specs.Profiles.Meaning.{profile_meaning}
use Rattle.nextest_sources.specs.WarningsView.{warnings_view}
use Rattle.serde_json.specs.View.{view}
use Rattle.rinqebo_objects.specs.Objects.{AreObjectsOf}
use Rattle.rinqebo_objects.specs.Scripts.{directories_view}
use Rattle.rinqebo_objects.specs.Used.{listed_view, used_in}
use Rattle.rinqebo_objects.proofs.objects.objects_json.Goals as goal

pub returns-in-Some : goal.returns-in-Some
returns-in-Some g c =
    let F = g.F.Filters in
    let facts = c.args.profile.now.facts in
    let filter = c.args.profile.now.default_filter.text in
    let profiles = map string_bytes c.args.around.profiles.now in
    let warnings = warnings_view c.args.around.warnings.now in
    let directories = directories_view c.args.around.directories in
    let origins = option_map (λ origins. origins.now) c.args.around.origins in
    let meant = profile_meaning F.meaning c.args.profile.now in
    subst (λ list. IfOk c.objects_of_list.result (λ objects. AreObjectsOf facts filter profiles warnings directories
    (used_in F.holds F.holds_binary meant (listed_view list)) origins (view objects.value)))
    (sym c.in-Some.is) c.objects_of_list.ensures

pub returns-in-None : goal.returns-in-None
returns-in-None g c =
    let F = g.F.Filters in
    let facts = c.args.profile.now.facts in
    let filter = c.args.profile.now.default_filter.text in
    let profiles = map string_bytes c.args.around.profiles.now in
    let warnings = warnings_view c.args.around.warnings.now in
    let directories = directories_view c.args.around.directories in
    let origins = option_map (λ origins. origins.now) c.args.around.origins in
    let meant = profile_meaning F.meaning c.args.profile.now in
    subst (λ list. IfOk c.objects_of.result (λ objects. AreObjectsOf facts filter profiles warnings directories
    (used_in F.holds F.holds_binary meant (listed_view list)) origins (view objects.value)))
    (sym c.in-None.is) c.objects_of.ensures
