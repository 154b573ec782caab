-- The overrides that have a default filter, as code holds them and as definitions have them.
use Rattle.std.proofs.Common.{◌≡◌, ◌<◌, ◌+◌, ◌∙◌, ℕ, List, [], ◌∷◌, ◌++◌, Bool, true, false, cond, Option, ap, filter, get_or, length, map, refl, subst, sym, take}
use Rattle.std.proofs.lemmas.List.{map-append}
use Rattle.nextest_engines.specs.declared.queries.BuildPlatforms.{BuildPlatforms}
use Rattle.nextest_settings.specs.Profiles.RulesOn.{AreOverridesOn}
use Rattle.nextest_rules.specs.Rules.{Compiled, OverrideUse}
use Rattle.nextest_rules.specs.declared.overrides.CompiledOverride.{CompiledOverride}
use Rattle.nextest_settings.specs.Platforms.{rule_on}
use Rattle.nextest_settings.specs.View.{evaluated_override_view, override_ref_view}
use Rattle.nextest_settings.specs.declared.platforms.EvaluatedRule.{EvaluatedRule as Held}
use Rattle.platform_language.specs.declared.expression.TargetSpec.{TargetSpec}
use Rattle.platform_language.specs.declared.platforms.Platform.{Platform}
use Rattle.rinqebo_rules.specs.Conditions.{is_met_by}
use Rattle.rinqebo_rules.specs.FilterRules.{filter_rule, filter_rule_on, filter_rules, has_default, held_default, held_filter_rule}
use Rattle.rinqebo_origins.proofs.RowsMore.{filter_more, filter_same}

-- one more element that passes a test, and what is made of it
pub mapped_more : {X Y Z : Type 0} (view : Z → Y) (f : X → Y) (p : X → Bool) (xs : List X) (i : ℕ) (x d : X)
    → i < length xs → x ≡ get_or xs i d → (now new : List Z) (z : Z) → map view now ≡ map f (filter p (take i xs))
    → p x ≡ true → view z ≡ f x → new ≡ now ++ z ∷ [] → map view new ≡ map f (filter p (take (i + 1) xs))
mapped_more view f p xs i x d below same now new z before passes told more =
    ap (map view) more ∙ map-append view now (z ∷ [])
    ∙ (λ j. before j ++ told j ∷ [])
    ∙ sym (map-append f (filter p (take i xs)) (x ∷ []))
    ∙ ap (map f) (filter_more p xs i x d below same (filter p (take i xs)) (filter p (take i xs) ++ x ∷ []) refl passes refl)

-- one more element that does not pass
pub mapped_same : {X Y Z : Type 0} (view : Z → Y) (f : X → Y) (p : X → Bool) (xs : List X) (i : ℕ) (x d : X)
    → i < length xs → x ≡ get_or xs i d → (now : List Z) → map view now ≡ map f (filter p (take i xs))
    → p x ≡ false → map view now ≡ map f (filter p (take (i + 1) xs))
mapped_same view f p xs i x d below same now before fails =
    before ∙ ap (map f) (filter_same p xs i x d below same (filter p (take i xs)) refl fails)

module _ {F S E T P : Type 0} (platforms : BuildPlatforms Platform) where
  one_held : (b : Bool) (x : Held (CompiledOverride F S E T TargetSpec P))
      (xs : List (Held (CompiledOverride F S E T TargetSpec P)))
      (y : Compiled E TargetSpec (OverrideUse E)) (ys : List (Compiled E TargetSpec (OverrideUse E)))
      → held_filter_rule platforms x ≡ filter_rule_on is_met_by platforms y
      → map (held_filter_rule platforms) xs ≡ map (filter_rule_on is_met_by platforms) ys
      → map (held_filter_rule platforms) (cond b (x ∷ xs) xs)
      ≡ map (filter_rule_on is_met_by platforms) (cond b (y ∷ ys) ys)
  one_held true x xs y ys one rest = λ i. one i ∷ rest i
  one_held false x xs y ys one rest = rest

  rules_held : (held : List (Held (CompiledOverride F S E T TargetSpec P)))
      → map evaluated_override_view held
      ≡ map (rule_on is_met_by platforms) (map (λ e. override_ref_view e.rule) held)
      → map (held_filter_rule platforms) (filter held_default held)
      ≡ filter_rules is_met_by platforms (map (λ e. override_ref_view e.rule) held)
  rules_held [] on = refl
  rules_held (x ∷ xs) on =
      let head : evaluated_override_view x ≡ rule_on is_met_by platforms (override_ref_view x.rule) = cc in
      let rest : map evaluated_override_view xs
      ≡ map (rule_on is_met_by platforms) (map (λ e. override_ref_view e.rule) xs) = cc in
      one_held (held_default x) x (filter held_default xs) (override_ref_view x.rule)
      (filter has_default (map (λ e. override_ref_view e.rule) xs))
      (λ i. filter_rule is_met_by platforms (head i).for_target (override_ref_view x.rule)) (rules_held xs rest)

  -- those that code holds are those of a profile
  pub rules_here : (held : List (Held (CompiledOverride F S E T TargetSpec P)))
      (overrides : List (Compiled E TargetSpec (OverrideUse E)))
      → AreOverridesOn is_met_by platforms overrides held
      → map (held_filter_rule platforms) (filter held_default held) ≡ filter_rules is_met_by platforms overrides
  rules_here held overrides on =
      subst (λ os. map evaluated_override_view held ≡ map (rule_on is_met_by platforms) os
      → map (held_filter_rule platforms) (filter held_default held) ≡ filter_rules is_met_by platforms os)
      on.written (rules_held held) on.on
