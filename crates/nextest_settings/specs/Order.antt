-- The order of the rules of a chain, by their places.
use Rattle.std.specs.Prelude.{◌≡◌, ◌<◌, ◌⊎◌, ℕ, List, [], ◌∷◌, map, Option, Some, option_and_then, slice_get}
use Rattle.std.specs.List.{AllByRecursion}
use Rattle.nextest_rules.specs.Rules.{LayerProfile, Layer}
use Rattle.nextest_tables.specs.Written.{Name}
use Rattle.nextest_settings.specs.Chains.{in_layer}

-- a place: that of a name among names, that of a source among the sources from the highest, and a
-- position there
pub record RulePlace : Type 0 where
  pub name : ℕ
  pub layer : ℕ
  pub index : ℕ

-- a place comes before another: by name, then by source, then by position
abbrev pub Before : RulePlace → RulePlace → Type 0
Before p q = (p.name < q.name) ⊎ ((p.name ≡ q.name)
    × ((p.layer < q.layer) ⊎ ((p.layer ≡ q.layer) × (p.index < q.index))))

-- each place comes before all that follow it
abbrev pub Ascend : List RulePlace → Type 0
Ascend [] = Unit {0}
Ascend (p ∷ ps) = AllByRecursion (Before p) ps × Ascend ps

-- what f has at a place, if anything is there
abbrev pub at_place : {M K X : Type 0} → (LayerProfile M K → List X) → List (Layer M K)
    → List Name → RulePlace → Option X
at_place f layers names p = option_and_then
    (λ name. option_and_then (λ layer. slice_get (in_layer f name layer) p.index)
    (slice_get layers p.layer)) (slice_get names p.name)

-- Rules are in the order of their places: there are places that ascend, at which these rules
-- are in turn, and each place with a rule is one of them.
pub record RulesAreInOrder {M K X : Type 0} (f : LayerProfile M K → List X)
    (layers : List (Layer M K)) (names : List Name) (rules : List X) : Type 0 where
  pub places : List RulePlace
  pub ascend : Ascend places
  pub stand : map (at_place f layers names) places ≡ map Some rules
  pub all : (p : RulePlace) (r : X) → at_place f layers names p ≡ Some r
      → (n : ℕ) × (slice_get places n ≡ Some p)
