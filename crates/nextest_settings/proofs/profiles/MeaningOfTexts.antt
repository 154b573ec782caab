-- A profile of what is meant is what a profile means.
use Rattle.std.proofs.Common.{◌≡◌, List, [], ◌∷◌, map, Option, Some, None, option_map, unwrap_or, Bool, true, false, refl, ap, ◌∙◌, sym, subst}
use Rattle.std.proofs.lemmas.List.{map-append}
use Rattle.std.proofs.lemmas.Map.Made.{lookup-map_values}
use Rattle.std.specs.List.{flat_map, filter_map, cons_option}
use Rattle.std.specs.BTreeMap.{is_at}
use Rattle.std.specs.Option.{option_or, option_and_then}
use Rattle.std.specs.Ordering.{nat_cmp}
use Rattle.std.specs.Cmp.Lexicographic.{slice_cmp}
use Rattle.nextest_engines.specs.declared.queries.BuildPlatforms.{BuildPlatforms}
use Rattle.nextest_inheritance.specs.Parents.{parents_in, with_default, IsChain}
use Rattle.nextest_load.specs.Config.{ConfigModel, config_parents}
use Rattle.nextest_load.specs.Meaning.{config_meaning}
use Rattle.nextest_rules.specs.Meaning as rules
use Rattle.nextest_rules.specs.Rules.{Compiled, WrittenFilter, OverrideUse, ScriptRuleUse, LayerProfile, Layer, at_name}
use Rattle.nextest_settings.specs.Chains.{in_layer, in_order, overrides_of, script_rules_of, first_of, FilterChoice, at_profile, chosen_at, filter_of_profile, nearest_filter, match_all_filter}
use Rattle.nextest_settings.specs.Platforms.{spec_holds, EvaluatedRule, rule_on, filter_of_override, default_filter_of}
use Rattle.nextest_settings.specs.Profile.{Configured, EarlyModel, EvaluatableModel, profile_of, profile_on}
use Rattle.nextest_settings.specs.View.{evaluated_override_meaning, evaluated_script_rule_meaning}
use Rattle.nextest_tables.specs.Written.{Name}
use Rattle.nextest_tree.specs.Schema.{first}
use Rattle.nextest_settings.specs.Profiles.Meaning.{with_config, configured_meaning, choice_meaning, profile_meaning}
use Rattle.nextest_settings.specs.Profiles.Profiles.{IsProfileOf}

some_list : {X Y : Type 0} (h : X → Y) (o : Option (List X))
    → map h (unwrap_or o []) ≡ unwrap_or (option_map (map h) o) []
some_list h None = refl
some_list h (Some xs) = refl

option_twice : {X Y Z : Type 0} (f : Y → Z) (g : X → Y) (o : Option X)
    → option_map f (option_map g o) ≡ option_map (λ x. f (g x)) o
option_twice f g None = refl
option_twice f g (Some x) = refl

or_meaning : {X Y : Type 0} (f : X → Y) (o r : Option X)
    → option_map f (option_or o r) ≡ option_or (option_map f o) (option_map f r)
or_meaning f None r = refl
or_meaning f (Some x) r = refl

unwrap_meaning : {X Y : Type 0} (f : X → Y) (o : Option X) (d : X)
    → f (unwrap_or o d) ≡ unwrap_or (option_map f o) (f d)
unwrap_meaning f None d = refl
unwrap_meaning f (Some x) d = refl

first_in : {Y : Type 0} (o : Option Y) (ys : List Y) → first (cons_option o ys) ≡ option_or o (first ys)
first_in None ys = refl
first_in (Some y) ys = refl

-- the first value, through what it is taken of and what it gives
first_meaning : {X X' Y Y' : Type 0} (h : X → Option Y) (h' : X' → Option Y') (k : X → X') (f : Y → Y')
    → ((x : X) → option_map f (h x) ≡ h' (k x)) → (xs : List X)
    → option_map f (first_of h xs) ≡ first_of h' (map k xs)
first_meaning h h' k f same [] = refl
first_meaning h h' k f same (x ∷ xs) =
    ap (option_map f) (first_in (h x) (filter_map h xs))
    ∙ or_meaning f (h x) (first_of h xs)
    ∙ rw (same x, first_meaning h h' k f same xs) refl
    ∙ sym (first_in (h' (k x)) (filter_map h' (map k xs)))

module _ {E N M K : Type 0} (f : E → M) (g : N → K) where
  at_name_meaning : (name : Name) (l : Layer E N)
      → option_map (rules.layer_profile_meaning f g) (at_name name l.profiles)
      ≡ at_name name (rules.layer_meaning f g l).profiles
  at_name_meaning name l = sym
      (lookup-map_values (rules.layer_profile_meaning f g) (is_at (slice_cmp nat_cmp name)) l.profiles)

  module _ {X Y : Type 0} (part : LayerProfile E N → List X) (part' : LayerProfile M K → List Y) (h : X → Y)
      (same : (p : LayerProfile E N) → map h (part p) ≡ part' (rules.layer_profile_meaning f g p)) where
    of_option : (o : Option (LayerProfile E N))
        → map h (unwrap_or (option_map part o) [])
        ≡ unwrap_or (option_map part' (option_map (rules.layer_profile_meaning f g) o)) []
    of_option None = refl
    of_option (Some p) = same p

    of_layer : (name : Name) (l : Layer E N)
        → map h (in_layer part name l) ≡ in_layer part' name (rules.layer_meaning f g l)
    of_layer name l = of_option (at_name name l.profiles)
        ∙ ap (λ o. unwrap_or (option_map part' o) []) (at_name_meaning name l)

    of_layers : (name : Name) (ls : List (Layer E N))
        → map h (flat_map (in_layer part name) ls) ≡ flat_map (in_layer part' name) (map (rules.layer_meaning f g) ls)
    of_layers name [] = refl
    of_layers name (l ∷ ls) =
        map-append h (in_layer part name l) (flat_map (in_layer part name) ls)
        ∙ rw (of_layer name l, of_layers name ls) refl

    of_names : (ls : List (Layer E N)) (names : List Name)
        → map h (in_order part ls names) ≡ in_order part' (map (rules.layer_meaning f g) ls) names
    of_names ls [] = refl
    of_names ls (name ∷ names) =
        map-append h (flat_map (in_layer part name) ls) (in_order part ls names)
        ∙ rw (of_layers name ls, of_names ls names) refl

  -- what the overrides of a chain mean
  pub overrides_meaning : (ls : List (Layer E N)) (names : List Name)
      → map (rules.override_meaning f g) (overrides_of ls names) ≡ overrides_of (map (rules.layer_meaning f g) ls) names
  overrides_meaning = of_names (λ p. p.overrides) (λ p. p.overrides) (rules.override_meaning f g) (λ p. refl)

  -- what the script rules of a chain mean
  pub script_rules_meaning : (ls : List (Layer E N)) (names : List Name)
      → map (rules.script_rule_meaning f g) (script_rules_of ls names)
      ≡ script_rules_of (map (rules.layer_meaning f g) ls) names
  script_rules_meaning = of_names (λ p. p.script_rules) (λ p. p.script_rules) (rules.script_rule_meaning f g)
      (λ p. refl)

  written_meaning : (o : Option (LayerProfile E N))
      → option_map (rules.written_meaning f) (option_and_then (λ p. p.default_filter) o)
      ≡ option_and_then (λ p. p.default_filter) (option_map (rules.layer_profile_meaning f g) o)
  written_meaning None = refl
  written_meaning (Some p) = refl

  highest_meaning : (name : Name) (l : Layer E N)
      → option_map (rules.written_meaning f) (option_and_then (λ p. p.default_filter) (at_name name l.profiles))
      ≡ option_and_then (λ p. p.default_filter) (at_name name (rules.layer_meaning f g l).profiles)
  highest_meaning name l = written_meaning (at_name name l.profiles)
      ∙ ap (option_and_then (λ p. p.default_filter)) (at_name_meaning name l)

  of_profile_meaning : (ls : List (Layer E N)) (name : Name)
      → option_map (choice_meaning f) (filter_of_profile ls name)
      ≡ filter_of_profile (map (rules.layer_meaning f g) ls) name
  of_profile_meaning ls name =
      let written : Layer E N → Option (WrittenFilter E) =
      λ l. option_and_then (λ p. p.default_filter) (at_name name l.profiles) in
      let written' : Layer M K → Option (WrittenFilter M) =
      λ l. option_and_then (λ p. p.default_filter) (at_name name l.profiles) in
      let meant = rules.written_meaning f in
      option_twice (choice_meaning f) (chosen_at name at_profile) (first_of written ls)
      ∙ sym (option_twice (chosen_at name at_profile) meant (first_of written ls))
      ∙ ap (option_map (chosen_at name at_profile))
      (first_meaning written written' (rules.layer_meaning f g) meant (highest_meaning name) ls)

  same_names : {X : Type 0} (xs : List X) → map (λ x. x) xs ≡ xs
  same_names [] = refl
  same_names (x ∷ xs) = ap (λ ys. x ∷ ys) (same_names xs)

  nearest_meaning : (ls : List (Layer E N)) (names : List Name)
      → option_map (choice_meaning f) (nearest_filter ls names)
      ≡ nearest_filter (map (rules.layer_meaning f g) ls) names
  nearest_meaning ls names =
      first_meaning (filter_of_profile ls) (filter_of_profile (map (rules.layer_meaning f g) ls))
      (λ name. name) (choice_meaning f) (of_profile_meaning ls) names
      ∙ ap (first_of (filter_of_profile (map (rules.layer_meaning f g) ls))) (same_names names)

  module _ {P : Type 0} (meets : K → P → Option Bool) (platforms : BuildPlatforms P) where
    spec_meaning : (platform : P) (o : Option N)
        → spec_holds (λ spec platform. meets (g spec) platform) o platform ≡ spec_holds meets (option_map g o) platform
    spec_meaning platform None = refl
    spec_meaning platform (Some spec) = refl

    override_on : (r : Compiled E N (OverrideUse E))
        → evaluated_override_meaning f (rule_on (λ spec platform. meets (g spec) platform) platforms r)
        ≡ rule_on meets platforms (rules.override_meaning f g r)
    override_on r = rw (
      spec_meaning platforms.host r.host,
      spec_meaning platforms.host r.target,
      spec_meaning
          (unwrap_or platforms.target platforms.host) r.target,
    ) refl

    overrides_on : (rs : List (Compiled E N (OverrideUse E)))
        → map (evaluated_override_meaning f)
        (map (rule_on (λ spec platform. meets (g spec) platform) platforms) rs)
        ≡ map (rule_on meets platforms) (map (rules.override_meaning f g) rs)
    overrides_on [] = refl
    overrides_on (r ∷ rs) = λ i. override_on r i ∷ overrides_on rs i

    script_rule_on : (r : Compiled E N ScriptRuleUse)
        → evaluated_script_rule_meaning f (rule_on (λ spec platform. meets (g spec) platform) platforms r)
        ≡ rule_on meets platforms (rules.script_rule_meaning f g r)
    script_rule_on r = rw (
      spec_meaning platforms.host r.host,
      spec_meaning platforms.host r.target,
      spec_meaning (unwrap_or platforms.target platforms.host) r.target,
    ) refl

    script_rules_on : (rs : List (Compiled E N ScriptRuleUse))
        → map (evaluated_script_rule_meaning f)
        (map (rule_on (λ spec platform. meets (g spec) platform) platforms) rs)
        ≡ map (rule_on meets platforms) (map (rules.script_rule_meaning f g) rs)
    script_rules_on [] = refl
    script_rules_on (r ∷ rs) = λ i. script_rule_on r i ∷ script_rules_on rs i

  choice_of : (on : Bool) (index : Option (WrittenFilter E)) (r : EvaluatedRule E (OverrideUse E)) → r.for_target ≡ on
      → r.writes.default_filter ≡ index
      → option_map (choice_meaning f) (filter_of_override r) ≡ filter_of_override (evaluated_override_meaning f r)
  choice_of false o r is written = rw is refl
  choice_of true None r is written = rw (is, written) refl
  choice_of true (Some e) r is written = rw (is, written) refl

  of_override_meaning : (r : EvaluatedRule E (OverrideUse E))
      → option_map (choice_meaning f) (filter_of_override r) ≡ filter_of_override (evaluated_override_meaning f r)
  of_override_meaning r = choice_of r.for_target r.writes.default_filter r refl refl

  counting_meaning : (rs : List (EvaluatedRule E (OverrideUse E))) (nearest : Option (FilterChoice E))
      (nothing : FilterChoice E)
      → choice_meaning f (default_filter_of rs nearest nothing)
      ≡ default_filter_of (map (evaluated_override_meaning f) rs) (option_map (choice_meaning f) nearest)
      (choice_meaning f nothing)
  counting_meaning rs nearest nothing =
      unwrap_meaning (choice_meaning f) (option_or (first_of filter_of_override rs) nearest) nothing
      ∙ rw (
        or_meaning (choice_meaning f) (first_of filter_of_override rs) nearest,
        first_meaning
            filter_of_override filter_of_override (evaluated_override_meaning f) (choice_meaning f)
            of_override_meaning rs,
      ) refl

  -- what a profile on the platforms of a build means
  pub profile_means : {P : Type 0} (meets : K → P → Option Bool) (platforms : BuildPlatforms P)
      (c : Configured E N) (name : Name) (chain : List Name)
      → profile_meaning f (profile_on (λ spec platform. meets (g spec) platform) platforms
      (profile_of c name chain)) ≡ profile_on meets platforms (profile_of (configured_meaning f g c) name chain)
  profile_means meets platforms c name chain =
      let names = with_default chain in
      let ls = c.config.layers in
      let p = profile_of c name chain in
      let overrides = overrides_on meets platforms p.overrides
      ∙ ap (map (rule_on meets platforms)) (overrides_meaning ls names) in
      let filter = counting_meaning
      (map (rule_on (λ spec platform. meets (g spec) platform) platforms) p.overrides) p.nearest_filter
      (match_all_filter p.match_all)
      ∙ (λ i. default_filter_of (overrides i) (nearest_meaning ls names i) (match_all_filter (f c.config.match_all))) in
      λ i. record {
        facts = p.facts;
        overrides = overrides i;
        script_rules = (script_rules_on meets platforms p.script_rules
            ∙ ap (map (rule_on meets platforms)) (script_rules_meaning ls names)) i;
        default_filter = filter i;
      }

  -- the profile of a name, through what texts mean
  pub means_texts : {P : Type 0} (meets : K → P → Option Bool) (platforms : BuildPlatforms P)
      (c : Configured E N) (name : Name) (early : EarlyModel E N) (texts : ConfigModel M K)
      → config_meaning f g c.config ≡ texts → IsProfileOf c name early
      → (meant : EarlyModel M K) × IsProfileOf (with_config c texts) name meant
      × (profile_meaning f (profile_on (λ spec platform. meets (g spec) platform) platforms early)
      ≡ profile_on meets platforms meant)
  means_texts meets platforms c name early texts same of_name =
      let chain = of_name.chain in
      let is_chain : ConfigModel M K → Type 0 = λ config. IsChain (parents_in (config_parents config)) name chain in
      let found : IsProfileOf (with_config c texts) name (profile_of (with_config c texts) name chain) =
      record { chain = chain; is_chain = subst is_chain same of_name.is_chain; is_profile = refl } in
      let on : EarlyModel E N → EvaluatableModel M =
      λ p. profile_meaning f (profile_on (λ spec platform. meets (g spec) platform) platforms p) in
      let at : ConfigModel M K → EvaluatableModel M =
      λ config. profile_on meets platforms (profile_of (with_config c config) name chain) in (
        profile_of (with_config c texts) name chain,
        found,
        ap on of_name.is_profile
            ∙ profile_means meets platforms c name chain ∙ ap at same,
      )
