use Rattle.std.proofs.Common.{◌≡◌, ◌<◌, ℕ, Some, slice_get}
use Rattle.rinqebo_origins.specs.RulePlaces.{place_view}
use Rattle.rinqebo_origins.specs.declared.rule_places.RulePlace.{RulePlace}
use Rattle.rinqebo_rules.specs.Distinct.{IsOfOneList}
use Rattle.rinqebo_rules.proofs.distinct.is_of_some.Given as goal

-- the rule is of one list with none of these so far
abbrev pub invariant-loop-first : goal.invariant-loop-first
invariant-loop-first l = (k : ℕ) (first : RulePlace) → k < l.first-index → slice_get l.firsts k ≡ Some first
    → IsOfOneList (place_view l.place) (place_view first) → ⊥
