-- A setting is listed exactly where some rule decides.
use Rattle.std.proofs.Common.{◌≡◌, ◌⊎◌, inl, inr, ◌∙◌, ℕ, zero, suc, Bool, true, false, cond, List, [], ◌∷◌, Some, filter, slice_get, string_bytes, refl, sym, ap}
use Rattle.std.specs.List.{AllZip}
use Rattle.nextest_elements.specs.Settings.{index_of, settings}
use Rattle.nextest_elements.specs.declared.setting.Setting.{Setting}
use Rattle.nextest_elements.specs.declared.setting.Setting.TheVariants as at
use Rattle.rinqebo_laws.proofs.Lists.{contains_at, left_of, place_of, right_of}
use Rattle.rinqebo_laws.specs.Reasons.{DecidesAt, HaveKey, NoneDecides}
use Rattle.rinqebo_report.specs.declared.report.Rule.{Rule}
use Rattle.rinqebo_report.specs.declared.report.SettingRow.{SettingRow}
use Rattle.rinqebo_report.specs.declared.report.Verdict.{Verdict}
use Rattle.rinqebo_report.specs.declared.report.Verdict.TheVariants as told

-- ---- some rule decides, or none

decides_or_not : (v : Verdict) → (v ≡ told.Decides) ⊎ (v ≡ told.Decides → ⊥)
decides_or_not told.PlatformNo = inr (λ is. absurd cc)
decides_or_not told.FilterNo = inr (λ is. absurd cc)
decides_or_not told.SetsNothing = inr (λ is. absurd cc)
decides_or_not told.DecidedBefore = inr (λ is. absurd cc)
decides_or_not told.Decides = inl refl
decides_or_not told.Fallback = inr (λ is. absurd cc)

first_or_later : (rule : Rule) (rules : List Rule) → (rule.verdict ≡ told.Decides) ⊎ (rule.verdict ≡ told.Decides → ⊥)
    → ((n : ℕ) × DecidesAt rules n) ⊎ NoneDecides rules
    → ((n : ℕ) × DecidesAt (rule ∷ rules) n) ⊎ NoneDecides (rule ∷ rules)
first_or_later rule rules (inl is) later = inl (zero, (rule, refl, is))
first_or_later rule rules (inr never) (inl later) = inl (suc later.0, later.1)
first_or_later rule rules (inr never) (inr none) = inr (never, none)

pub some_or_none : (rules : List Rule) → ((n : ℕ) × DecidesAt rules n) ⊎ NoneDecides rules
some_or_none [] = inr tt
some_or_none (rule ∷ rules) = first_or_later rule rules (decides_or_not rule.verdict) (some_or_none rules)

-- ---- elements that are kept

by_head : {X : Type 0} (x : X) (xs : List X) (b : Bool) (n : ℕ) (y : X) → slice_get xs n ≡ Some y
    → (m : ℕ) × (slice_get (cond b (x ∷ xs) xs) m ≡ Some y)
by_head x xs true n y is = (suc n, is)
by_head x xs false n y is = (n, is)

kept_first : {X : Type 0} (x y : X) (xs : List X) (b : Bool) → b ≡ true → x ≡ y
    → slice_get (cond b (x ∷ xs) xs) zero ≡ Some y
kept_first x y xs true is same = ap Some same
kept_first x y xs false is same = absurd cc

pub kept : {X : Type 0} (p : X → Bool) (xs : List X) (n : ℕ) (x : X) → slice_get xs n ≡ Some x → p x ≡ true
    → (m : ℕ) × (slice_get (filter p xs) m ≡ Some x)
kept p [] n x is passes = absurd cc
kept p (y ∷ xs) zero x is passes =
    let same : y ≡ x = cc in
    (zero, kept_first y x (filter p xs) (p y) (ap p same ∙ passes) same)
kept p (y ∷ xs) (suc n) x is passes =
    let later = kept p xs n x is passes in
    by_head y (filter p xs) (p y) later.0 x later.1

passes_first : {X : Type 0} (p : X → Bool) (y x : X) (xs : List X) (b : Bool) (n : ℕ) → p y ≡ b
    → slice_get (cond b (y ∷ xs) xs) n ≡ Some x → ((m : ℕ) → slice_get xs m ≡ Some x → p x ≡ true) → p x ≡ true
passes_first p y x xs true zero passes is rest = let same : y ≡ x = cc in ap p (sym same) ∙ passes
passes_first p y x xs true (suc n) passes is rest = rest n is
passes_first p y x xs false n passes is rest = rest n is

pub kept_passes : {X : Type 0} (p : X → Bool) (xs : List X) (n : ℕ) (x : X) → slice_get (filter p xs) n ≡ Some x
    → p x ≡ true
kept_passes p [] n x is = absurd cc
kept_passes p (y ∷ xs) n x is =
    passes_first p y x (filter p xs) (p y) n refl is (λ m there. kept_passes p xs m x there)

from_head : {X : Type 0} (y x : X) (xs others : List X) (b : Bool) (m : ℕ)
    → slice_get (cond b (y ∷ others) others) m ≡ Some x
    → ((k : ℕ) → slice_get others k ≡ Some x → (n : ℕ) × (slice_get xs n ≡ Some x))
    → (n : ℕ) × (slice_get (y ∷ xs) n ≡ Some x)
from_head y x xs others true zero is rest = (zero, is)
from_head y x xs others true (suc m) is rest = let later = rest m is in (suc later.0, later.1)
from_head y x xs others false m is rest = let later = rest m is in (suc later.0, later.1)

-- what is kept of a list is in it
pub from_kept : {X : Type 0} (p : X → Bool) (xs : List X) (m : ℕ) (x : X) → slice_get (filter p xs) m ≡ Some x
    → (n : ℕ) × (slice_get xs n ≡ Some x)
from_kept p [] m x is = absurd cc
from_kept p (y ∷ xs) m x is = from_head y x xs (filter p xs) (p y) m is (λ k there. from_kept p xs k x there)

-- each setting is one of all
setting_there : (s : Setting) → slice_get settings (index_of s) ≡ Some s
unfolding settings
setting_there at.Priority = refl
setting_there at.ThreadsRequired = refl
setting_there at.RunWrapper = refl
setting_there at.RunExtraArgs = refl
setting_there at.Retries = refl
setting_there at.FlakyResult = refl
setting_there at.SlowTimeout = refl
setting_there at.LeakTimeout = refl
setting_there at.TestGroup = refl
setting_there at.SuccessOutput = refl
setting_there at.FailureOutput = refl
setting_there at.JunitStoreSuccessOutput = refl
setting_there at.JunitStoreFailureOutput = refl
setting_there at.JunitReportSkipped = refl
setting_there at.JunitFlakyFailStatus = refl

-- ---- rows of the settings that pass

module _ (Is : Setting → SettingRow → Type 0) (keys : Setting → List ℕ)
    (keyed : (s : Setting) (row : SettingRow) → Is s row → string_bytes row.key ≡ keys s)
    (one : (s t : Setting) → keys s ≡ keys t → s ≡ t) (p : Setting → Bool) (rows : List SettingRow)
    (all : AllZip Is (filter p settings) rows) (s : Setting) where
  pub passes_if_listed : (key : List ℕ) → key ≡ keys s → HaveKey rows key → p s ≡ true
  passes_if_listed key is has =
      let place = place_of rows has.row has.is_row in
      let it = left_of Is (filter p settings) rows place.0 has.row all place.1 in
      let same : it.0 ≡ s = one it.0 s (sym (keyed it.0 has.row it.2) ∙ has.has_key ∙ is) in
      ap p (sym same) ∙ kept_passes p settings place.0 it.0 it.1

  pub listed_if_passes : (key : List ℕ) → key ≡ keys s → p s ≡ true → HaveKey rows key
  listed_if_passes key is passes =
      let there = kept p settings (index_of s) s (setting_there s) passes in
      let it = right_of Is (filter p settings) rows there.0 s all there.1 in
      record {
        row = it.0;
        is_row = contains_at rows there.0 it.0 it.1;
        has_key = keyed s it.0 it.2 ∙ sym is;
      }
