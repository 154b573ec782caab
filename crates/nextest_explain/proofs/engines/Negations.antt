-- Values behind `not`s.
use Rattle.std.proofs.Common.{◌≡◌, ◌%◌, ◌≢◌, ℕ, zero, suc, Bool, true, false, not, Option, None, Some, option_map, refl, ◌∙◌, ap, arith, add-one}
use Rattle.nextest_explain.specs.Engines.FilterValues.{negated}

-- Two `not`s say nothing.
twice : (value : Option Bool) → option_map not (option_map not value) ≡ value
twice None = refl
twice (Some true) = refl
twice (Some false) = refl

-- An even number of `not`s says nothing, an odd one says one.
parity : (n : ℕ) (value : Option Bool)
    → (n % 2 ≡ 0 → negated n value ≡ value) × (n % 2 ≡ 1 → negated n value ≡ option_map not value)
parity zero value = ((λ e. refl), (λ e. absurd (cc)))
parity (suc n) value =
    let before = parity n value in (
      (λ e. ap (option_map not) (before.1 (omega (arith, add-one n))) ∙ twice value),
      (λ e. ap (option_map not) (before.0 (omega (arith, add-one n)))),
    )

pub negated_even : (n : ℕ) (value : Option Bool) → n % 2 ≡ 0 → negated n value ≡ value
negated_even n value e = (parity n value).0 e

pub negated_odd : (n : ℕ) (value : Option Bool) → n % 2 ≢ 0 → negated n value ≡ option_map not value
negated_odd n value e = (parity n value).1 (omega arith)
