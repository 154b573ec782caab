use Rattle.std.proofs.Common.{map, subst, sym}
use Rattle.nextest_engines.specs.Engines.{test_view}
use Rattle.nextest_settings.specs.Profiles.Meaning.{profile_meaning}
use Rattle.rinqebo_objects.specs.Uses.{AreUsesIn}
use Rattle.rinqebo_objects.proofs.objects.objects_of_list.Goals as goal

pub returns : goal.returns
returns g c =
    let F = g.F.Filters in
    let meant = profile_meaning F.meaning c.args.profile.now in
    c.in_ok-objects.ensures.objects
    (subst (AreUsesIn F.holds meant (map test_view c.args.list.tests.now)) (sym c.deref.ensures.value) c.in_ok-uses.ensures)
