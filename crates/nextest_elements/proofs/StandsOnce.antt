-- Each setting stands once among all of them.
use Rattle.std.proofs.Common.{◌≡◌, ℕ, zero, suc, ◌+◌, List, [], ◌∷◌, Some, slice_get, refl, sym, arith}
use Rattle.nextest_elements.specs.Settings.{settings, index_of, StandsOnce}
use Rattle.nextest_elements.specs.declared.setting.Setting.{Setting}
use Rattle.nextest_elements.specs.declared.setting.Setting.TheVariants as at

-- settings whose places are counted on from a first one
abbrev PlacesFrom : ℕ → List Setting → Type 0
PlacesFrom n [] = Unit {0}
PlacesFrom n (s ∷ ss) = (index_of s ≡ n) × PlacesFrom (suc n) ss

place_is : (first : ℕ) (ss : List Setting) (n : ℕ) (s : Setting) → PlacesFrom first ss
    → slice_get ss n ≡ Some s → n + first ≡ index_of s
place_is first [] n s places there = absurd cc
place_is first (x ∷ ss) zero s places there =
    let same : x ≡ s = cc in
    let none : 0 + first ≡ first = omega arith in
    rw (none, ← same) (sym places.0)
place_is first (x ∷ ss) (suc n) s places there =
    let further : n + suc first ≡ index_of s = place_is (suc first) ss n s places.1 there in
    let one_on : suc n + first ≡ n + suc first = omega arith in
    rw one_on further

all_places : PlacesFrom 0 settings
unfolding settings
all_places = (
  refl,
  (
    refl,
    (refl, (refl, (refl, (refl, (refl, (refl, (refl, (refl, (refl, (refl, (refl, (refl, (refl, tt))))))))))))),
  ),
)

pub at_place : (s : Setting) → slice_get settings (index_of s) ≡ Some s
unfolding settings
at_place at.Priority = refl
at_place at.ThreadsRequired = refl
at_place at.RunWrapper = refl
at_place at.RunExtraArgs = refl
at_place at.Retries = refl
at_place at.FlakyResult = refl
at_place at.SlowTimeout = refl
at_place at.LeakTimeout = refl
at_place at.TestGroup = refl
at_place at.SuccessOutput = refl
at_place at.FailureOutput = refl
at_place at.JunitStoreSuccessOutput = refl
at_place at.JunitStoreFailureOutput = refl
at_place at.JunitReportSkipped = refl
at_place at.JunitFlakyFailStatus = refl

pub stands_once : (s : Setting) → StandsOnce settings s
stands_once s = record {
  place = index_of s;
  there = at_place s;
  alone = λ n there.
      let none : n + 0 ≡ n = omega arith in
      rw none at (place_is 0 settings n s all_places there);
}
