use Rattle.std.proofs.Common.{◌≡◌, ◌∙◌, ap, sym, subst, ℕ, List, map}
use Rattle.std.specs.Result.{IfOk}
use Rattle.nextest_engines.specs.Engines.{test_view}
use Rattle.nextest_settings.specs.GroupView.{membership_group}
use Rattle.nextest_settings.specs.Queries.{group_of}
use Rattle.nextest_settings.specs.Profiles.Meaning.{profile_meaning}
use Rattle.nextest_settings.proofs.profiles.ProfileMeaning.{means_rules}
use Rattle.nextest_settings.proofs.profiles.evaluatable.EvaluatableProfile.precompute_group_memberships.Goals as goal

pub returns-clause-groups : goal.returns-clause-groups
returns-clause-groups g c =
    let meaning = g.F.Filters.meaning in
    let same = ap (profile_meaning meaning) (sym c.self.view_is)
    ∙ means_rules meaning c.self.inside.facts c.self.inside.rules in
    subst (λ p. IfOk c.precompute_group_memberships.result
    (λ found. (binary_id name : List ℕ) → membership_group found binary_id name
    ≡ group_of g.F.Filters.holds p (map test_view c.args.tests.now) binary_id name)) (sym same)
    c.precompute_group_memberships.ensures.groups
