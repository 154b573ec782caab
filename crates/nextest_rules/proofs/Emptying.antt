-- The warnings of profiles, one after another.
use Rattle.std.proofs.Common.{◌≡◌, ℕ, List, [], ◌∷◌, ◌++◌, length, take, drop, Bor, sym, ap, ◌∙◌, append-nil}
use Rattle.std.proofs.lemmas.List.{map-append, take-append-drop}
use Rattle.std.proofs.lemmas.List.Concat.{flat_map-append}
use Rattle.nextest_sources.specs.Sources.{Source}
use Rattle.nextest_sources.specs.Steps.{warn}
use Rattle.nextest_sources.specs.Warnings.{Warning}
use Rattle.nextest_rules.specs.Steps.{empty_steps_in, empty_steps_of, warn_if_some}
use Rattle.nextest_rules.specs.View.{order_view, profile_meaning_view}
use Rattle.nextest_rules.specs.declared.overrides.CompiledProfile.{CompiledProfile}

module _ {F S E T N P M K : Type 0} (f : E → M) (h : N → K) (s : Source) where
  both : (xs ys : List (Bor (List ℕ) × Bor (CompiledProfile F S E T N P)))
      → empty_steps_in s (order_view f h (xs ++ ys)) ≡ empty_steps_in s (order_view f h xs)
      ++ empty_steps_in s (order_view f h ys)
  both xs ys =
      ap (λ es. empty_steps_in s es) (map-append (λ e. (e.0.now, profile_meaning_view f h e.1.now)) xs ys)
      ∙ flat_map-append (λ p. empty_steps_of s p.0 p.1) (order_view f h xs) (order_view f h ys)

  -- the steps of the profiles so far, and of those that are left
  pub steps_split : (i : ℕ) (xs : List (Bor (List ℕ) × Bor (CompiledProfile F S E T N P)))
      → empty_steps_in s (order_view f h (take i xs)) ++ empty_steps_in s (order_view f h (drop i xs))
      ≡ empty_steps_in s (order_view f h xs)
  steps_split i xs = sym (both (take i xs) (drop i xs))
      ∙ ap (λ es. empty_steps_in s (order_view f h es)) (take-append-drop i xs)

  -- the steps of one profile more
  pub steps_more : (xs : List (Bor (List ℕ) × Bor (CompiledProfile F S E T N P)))
      (e : Bor (List ℕ) × Bor (CompiledProfile F S E T N P))
      → empty_steps_in s (order_view f h (xs ++ e ∷ [])) ≡ empty_steps_in s (order_view f h xs)
      ++ empty_steps_of s e.0.now (profile_meaning_view f h e.1.now)
  steps_more xs e = both xs (e ∷ [])
      ∙ ap (λ l. empty_steps_in s (order_view f h xs) ++ l)
      (append-nil (empty_steps_of s e.0.now (profile_meaning_view f h e.1.now)))

-- the warning of how many elements there are
pub warned_of : {X : Type 0} (warning : ℕ → Warning) (n : ℕ) (xs : List X) → n ≡ length xs → (n ≡ 0 → ⊥)
    → warn_if_some (λ ys. warning (length ys)) xs ≡ warn (warning n) ∷ []
warned_of warning n [] count some = absurd (some count)
warned_of warning n (x ∷ xs) count some = ap (λ m. warn (warning m) ∷ []) (sym count)
