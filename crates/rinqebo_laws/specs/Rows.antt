-- Reports that agree on a test.
use Rattle.std.specs.Prelude.{◌≡◌, ℕ, List, Contains, Some, slice_get, string_bytes}
use Rattle.std.specs.List.{AllZip}
use Rattle.rinqebo_laws.specs.Shown.{AreAlike, AreShownAlike}
use Rattle.rinqebo_load.specs.FoundTests.{found_view}
use Rattle.rinqebo_load.specs.declared.found_test.FoundTest.{FoundTest}
use Rattle.rinqebo_report.specs.declared.report.SettingRow.{SettingRow}
use Rattle.rinqebo_report.specs.declared.report.TestRows.{TestRows}

-- Two rows say the same: of one key the same value, from the same origins, shown alike.
pub record SaySame (one other : SettingRow) : Type 0 where
  pub key : string_bytes one.key ≡ string_bytes other.key
  pub value : AreAlike one.value other.value
  pub origins : AreShownAlike one.origins.items other.origins.items

-- Two reports agree on a test: they name it alike, and agree on its platform, on whether it runs,
-- and on each setting that both report.
pub record AgreeOnTest (one other : TestRows) : Type 0 where
  pub binary : string_bytes one.binary ≡ string_bytes other.binary
  pub name : string_bytes one.name ≡ string_bytes other.name
  pub platform : one.platform ≡ other.platform
  pub runs : SaySame one.runs other.runs
  pub ignored : one.is_ignored ≡ other.is_ignored
  pub settings : (left right : SettingRow) → Contains one.settings.items left
      → Contains other.settings.items right → string_bytes left.key ≡ string_bytes right.key
      → SaySame left right

-- Two reports say the same of a test: they agree on it, both show whether it runs or neither does,
-- and they report the same settings, in the same order.
pub record SaySameOfTest (one other : TestRows) : Type 0 where
  pub agree : AgreeOnTest one other
  pub runs_shown : one.shows_runs ≡ other.shows_runs
  pub settings : AllZip SaySame one.settings.items other.settings.items

-- Two found tests are one: nothing that is known of them differs, and they are run for the same.
pub record AreOneTest (one other : FoundTest) : Type 0 where
  pub test : found_view one ≡ found_view other
  pub mode : one.mode ≡ other.mode

-- A list has a test at a place, and something holds of it.
pub record ListsTest (tests : List TestRows) (n : ℕ) (Holds : TestRows → Type 0) : Type 0 where
  pub test : TestRows
  pub there : slice_get tests n ≡ Some test
  pub holds : Holds test
