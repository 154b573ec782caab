use Rattle.std.proofs.Common.{◌∷◌, [], ℕ, List, codes, subst, sym}
use Rattle.nextest_explain.specs.Taking.{TakesOption}
use Rattle.nextest_explain.proofs.options.Options.add_feature.Goals as goal

pub returns : goal.returns
returns c =
    subst (λ (value : List ℕ). TakesOption (codes "--experimental" ∷ value ∷ []) c.args.self.now c.switch_on.new.self)
    (sym c.in-Some.ensures) c.in_ok-switch_on.ensures
