use Rattle.std.proofs.Common.{◌≡◌, ◌∙◌, Bool, sym, true}
use Rattle.rinqebo_checks.proofs.loading.config_with.Goals as goal

-- what a test that is not refused says of what it equals
reported_of_test : (t b : Bool) → t ≡ b → (t ≡ true) → b ≡ true
reported_of_test t b same is = sym same ∙ is

pub returns-clause-known : goal.returns-clause-known
returns-clause-known c =
    reported_of_test c.has_profile.result _ c.has_profile.ensures c.if-not-has_profile.false
