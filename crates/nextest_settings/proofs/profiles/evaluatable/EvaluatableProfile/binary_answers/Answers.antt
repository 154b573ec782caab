use Rattle.std.proofs.Common.{◌∙◌, IfOk, ap, subst, sym}
use Rattle.nextest_settings.specs.Binaries.{AreAnswersOf}
use Rattle.nextest_settings.specs.Profiles.Meaning.{profile_meaning}
use Rattle.nextest_settings.proofs.profiles.ProfileMeaning.{means_rules}
use Rattle.nextest_settings.proofs.profiles.evaluatable.EvaluatableProfile.binary_answers.Goals as goal

pub returns-clause-answers : goal.returns-clause-answers
returns-clause-answers g c =
    let F = g.F.Filters in
    let same = ap (profile_meaning F.meaning) (sym c.self.view_is)
    ∙ means_rules F.meaning c.self.inside.facts c.self.inside.rules in
    subst (λ p. IfOk c.of.result (AreAnswersOf F.holds_binary p)) (sym same) c.of.ensures.answers
