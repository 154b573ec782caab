-- The filters that a configuration writes, by what they mean, and how many were not looked up.
use Rattle.std.proofs.Common.{◌≡◌, ◌∙◌, ◌+◌, ◌++◌, Bool, cond, List, [], ◌∷◌, Option, None, Some, map, option_map, refl, sym, ap, ap₂}
use Rattle.std.proofs.lemmas.List.{map-append}
use Rattle.std.proofs.lemmas.List.Sums.{sum_by-cons}
use Rattle.std.specs.Borrow.{Bor}
use Rattle.std.specs.List.{count_by, flat_map}
use Rattle.std.specs.Option.{option_to_list}
use Rattle.filter_engine.specs.Compiling.{names_of}
use Rattle.filter_engine.specs.Open.{leaves_open}
use Rattle.filter_engine.specs.declared.compiling.FieldMatcher.{FieldMatcher}
use Rattle.filter_engine.specs.declared.engine.Packages.{Packages}
use Rattle.filter_language.specs.Filtersets.{marks_view}
use Rattle.filter_language.specs.declared.filterset.Filterset.{Filterset}
use Rattle.nextest_load.specs.Config.{ConfigModel}
use Rattle.nextest_load.specs.Load.{Loaded}
use Rattle.nextest_load.specs.Meaning.{config_meaning}
use Rattle.nextest_rules.specs.Meaning.{layer_meaning, layer_profile_meaning, override_meaning, script_rule_meaning, written_meaning}
use Rattle.nextest_rules.specs.Rules.{Compiled, Layer, LayerProfile, OverrideUse, ScriptRuleUse, WrittenFilter}
use Rattle.platform_language.specs.Expressions.{spec_view}
use Rattle.platform_language.specs.declared.expression.TargetSpec.{TargetSpec}
use Rattle.rinqebo_run.specs.OpenFilters.{borrowed, config_filters, config_read, default_filters, is_left_open, layer_filters, open_count, override_filters, profile_filters, script_filters}

-- ---- lists

module _ {X Y : Type 0} (f : X → Y) where
  listed : (o : Option X) → option_to_list (option_map f o) ≡ map f (option_to_list o)
  listed None = refl
  listed (Some x) = refl

  joined : (xs ys : List X) (vs ws : List Y) → vs ≡ map f xs → ws ≡ map f ys → vs ++ ws ≡ map f (xs ++ ys)
  joined xs ys vs ws one other = ap₂ (λ (a b : List Y). a ++ b) one other ∙ sym (map-append f xs ys)

  each : {A B : Type 0} (v : A → B) (p : B → List Y) (q : A → List X) → ((a : A) → p (v a) ≡ map f (q a))
      → (all : List A) → flat_map p (map v all) ≡ map f (flat_map q all)
  each v p q one [] = refl
  each v p q one (a ∷ all) =
      joined (q a) (flat_map q all) (p (v a)) (flat_map p (map v all)) (one a) (each v p q one all)

count_mapped : {X Y : Type 0} (p : Y → Bool) (f : X → Y) (xs : List X)
    → count_by p (map f xs) ≡ count_by (λ x. p (f x)) xs
count_mapped p f [] = refl
count_mapped p f (x ∷ xs) =
    sum_by-cons (λ y. cond (p y) 1 0) (f x) (map f xs)
    ∙ ap (λ n. cond (p (f x)) 1 0 + n) (count_mapped p f xs)
    ∙ sym (sum_by-cons (λ x. cond (p (f x)) 1 0) x xs)

-- ---- filters by what they mean

module _ {E N M K : Type 0} (f : E → M) (g : N → K) where
  default_meant : (o : Option (WrittenFilter E))
      → default_filters (option_map (written_meaning f) o) ≡ map f (default_filters o)
  default_meant None = refl
  default_meant (Some w) = refl

  override_meant : (rule : Compiled E N (OverrideUse E))
      → override_filters (override_meaning f g rule) ≡ map f (override_filters rule)
  override_meant rule =
      joined f (option_to_list rule.filter) (default_filters rule.writes.default_filter)
      (option_to_list (option_map f rule.filter))
      (default_filters (option_map (written_meaning f) rule.writes.default_filter)) (listed f rule.filter)
      (default_meant rule.writes.default_filter)

  script_meant : (rule : Compiled E N ScriptRuleUse)
      → script_filters (script_rule_meaning f g rule) ≡ map f (script_filters rule)
  script_meant rule = listed f rule.filter

  profile_meant : (p : LayerProfile E N)
      → profile_filters (layer_profile_meaning f g p) ≡ map f (profile_filters p)
  profile_meant p =
      let meant = layer_profile_meaning f g p in
      let defaults = default_filters p.default_filter in
      let overrides = flat_map override_filters p.overrides in
      joined f (defaults ++ overrides) (flat_map script_filters p.script_rules)
      (default_filters meant.default_filter ++ flat_map override_filters meant.overrides)
      (flat_map script_filters meant.script_rules)
      (joined f defaults overrides (default_filters meant.default_filter) (flat_map override_filters meant.overrides)
      (default_meant p.default_filter)
      (each f (override_meaning f g) override_filters override_filters override_meant p.overrides))
      (each f (script_rule_meaning f g) script_filters script_filters script_meant p.script_rules)

  layer_meant : (layer : Layer E N) → layer_filters (layer_meaning f g layer) ≡ map f (layer_filters layer)
  layer_meant layer =
      each f (λ e. (e.0, layer_profile_meaning f g e.1)) (λ p. profile_filters p.1) (λ p. profile_filters p.1)
      (λ e. profile_meant e.1) layer.profiles

  config_meant : (config : ConfigModel E N)
      → config_filters (config_meaning f g config) ≡ map f (config_filters config)
  config_meant config = each f (layer_meaning f g) layer_filters layer_filters layer_meant config.layers

-- how many filters of a configuration were not looked up, by those that code holds
pub counted : (packages : Packages) (loaded : Loaded (Filterset FieldMatcher) TargetSpec)
    (filters : List (Bor (Filterset FieldMatcher))) → borrowed filters ≡ config_filters loaded.config
    → count_by (λ filter. is_left_open packages filter.now) filters ≡ open_count packages (config_read loaded)
counted packages loaded filters are =
    let view = marks_view names_of in
    let meant : config_filters (config_read loaded) ≡ map view (borrowed filters) =
    config_meant view spec_view loaded.config ∙ ap (map view) (sym are) in
    sym
    (ap (count_by (leaves_open packages)) meant
    ∙ count_mapped (leaves_open packages) view (borrowed filters)
    ∙ count_mapped (is_left_open packages) (λ filter. filter.now) filters)
