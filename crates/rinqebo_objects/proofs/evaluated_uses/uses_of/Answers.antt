use Rattle.std.proofs.Common.{map, refl, subst}
use Rattle.std.proofs.lemmas.List.{take_all}
use Rattle.nextest_engines.specs.Engines.{test_view}
use Rattle.nextest_settings.specs.Profiles.Meaning.{profile_meaning}
use Rattle.nextest_settings.specs.Queries.{query_in}
use Rattle.rinqebo_objects.specs.Uses.{AreUsesIn, IsUseOf}
use Rattle.rinqebo_objects.proofs.Gathered.{zipped_more}
use Rattle.rinqebo_objects.proofs.evaluated_uses.uses_of.Goals as goal

pub loop-query-preserved : goal.loop-query-preserved
loop-query-preserved g c =
    let F = g.F.Filters in
    let profile = profile_meaning F.meaning c.args.profile.now in
    zipped_more c.args.tests.now c.loop-query.query-index _ _ c.loop-query-test.true refl
    (λ test. IsUseOf (query_in F.holds profile test) profile) test_view c.loop-query.uses.items _ _ c.loop-query.invariant
    c.in_ok-use_of.ensures c.in_ok-push.ensures.items

pub returns : goal.returns
returns g c =
    let F = g.F.Filters in
    let tests = c.args.tests.now in
    subst (λ ts. AreUsesIn F.holds (profile_meaning F.meaning c.args.profile.now) (map test_view ts) c.loop-query.uses.items)
    (take_all c.loop-query.query-index tests c.loop-query-test.false) c.loop-query.invariant
