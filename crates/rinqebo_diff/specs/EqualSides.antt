-- That nothing changes.
use Rattle.std.specs.Prelude.{◌≡◌, List, [], filter, not}
use Rattle.filter_inputs.specs.Lists.Lists.{ListTest}
use Rattle.rinqebo_changes.specs.declared.change.TestChanges.{TestChanges}
use Rattle.rinqebo_changes.specs.Sides.Matched.{is_in}

-- No test of a list changes: none has a setting that changes, and none is on one side alone.
pub record NoTestChanges (tests : List ListTest) (changed : List TestChanges) : Type 0 where
  pub none_changed : changed ≡ []
  pub none_alone : filter (λ t. not (is_in tests t)) tests ≡ []
