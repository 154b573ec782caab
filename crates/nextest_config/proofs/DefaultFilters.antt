-- The text of a default filter that is written reads to what the filter means.
use Rattle.std.proofs.Common.{◌≡◌, ◌⊎◌, inl, inr, ℕ, ◌+◌, Bool, true, false, cond, List, [], ◌∷◌, map, reverse, Option, None, Some, IfSome, option_and_then, option_map, unwrap_or, Result, Ok, Err, refl}
use Rattle.std.specs.List.{cons_option, enumerate_from, filter_map}
use Rattle.std.specs.Map.{lookup}
use Rattle.std.specs.Option.{option_or}
use Rattle.std.specs.Result.{result_ok}
use Rattle.nextest_engines.specs.Engines.{RefusalText}
use Rattle.nextest_engines.specs.Readings.{Readings}
use Rattle.nextest_engines.specs.declared.queries.BuildPlatforms.{BuildPlatforms}
use Rattle.nextest_engines.specs.declared.queries.FiltersetKind.TheVariants.{DefaultFilter}
use Rattle.nextest_inheritance.specs.Parents.{with_default}
use Rattle.nextest_load.specs.Loading.{source_layer}
use Rattle.nextest_load.specs.Trees.{own_file}
use Rattle.nextest_load.proofs.Closing.{each_mapped, each_reversed}
use Rattle.nextest_settings.proofs.EachRuleOf.{each_image, each_gathered}
use Rattle.nextest_rules.specs.Rules.{Compiled, WrittenFilter, OverrideUse, LayerProfile, Layer, at_name, written_filter, override_rule, layer_of}
use Rattle.nextest_settings.specs.Chains.{FilterSection, at_override, at_profile, chosen_at, first_of, filter_of_profile, match_all_filter, nearest_filter, overrides_of}
use Rattle.nextest_settings.specs.Platforms.{EvaluatedRule, filter_of_override, rule_on}
use Rattle.nextest_sources.specs.InputFaults.{Each}
use Rattle.nextest_sources.specs.Inputs.{SourceText, sources_in}
use Rattle.nextest_sources.specs.Sources.{Source}
use Rattle.nextest_tables.specs.FileTexts.{OverrideText, ProfileText}
use Rattle.nextest_tables.specs.Written.{Name}
use Rattle.nextest_tree.specs.Schema.{first}
use Rattle.nextest_config.specs.Laws.{AcceptedFiles, ReadsToFilter, meant_by, profile_by}

-- what holds of each value holds of the one that is looked up
looked_up : {K X : Type 0} (P : X → Type 0) (test : K → Bool) (es : List (K × X)) → Each (λ e. P e.1) es
    → IfSome (lookup test es) P
looked_up P test [] h = tt
looked_up P test (e ∷ es) h =
    elim (test e.0) as (λ b. IfSome (cond b (Some e.1) (lookup test es)) P)
    [ true ↦ h.0 | false ↦ looked_up P test es h.1 ]

some_part : {X Y : Type 0} (P : Y → Type 0) (part : X → Option Y) (o : Option X) → IfSome o (λ x. IfSome (part x) P)
    → IfSome (option_and_then part o) P
some_part P part None h = tt
some_part P part (Some x) h = h

first_or : {Y : Type 0} (P : Y → Type 0) (o : Option Y) (ys : List Y) → IfSome o P → IfSome (first ys) P
    → IfSome (first (cons_option o ys)) P
first_or P None ys h k = k
first_or P (Some y) ys h k = h

-- what holds of each value that may be given holds of the first one
first_holds : {X Y : Type 0} (P : Y → Type 0) (f : X → Option Y) (xs : List X) → Each (λ x. IfSome (f x) P) xs
    → IfSome (first_of f xs) P
first_holds P f [] h = tt
first_holds P f (x ∷ xs) h = first_or P (f x) (filter_map f xs) h.0 (first_holds P f xs h.1)

-- what holds of two values that may be there holds of the one that counts, if one is there
counts : {X : Type 0} (P : X → Type 0) (a b : Option X) (other : X) → IfSome a P → IfSome b P
    → let one = unwrap_or (option_or a b) other in P one ⊎ (one ≡ other)
counts P (Some x) b other h k = inl h
counts P None (Some y) other h k = inl k
counts P None None other h k = inr refl

text_read : {M : Type 0} (read : List ℕ → Result M RefusalText) (t : List ℕ) (r : Result M RefusalText) → read t ≡ r
    → let here : M → WrittenFilter M = λ m. record { means = m; text = t } in
    IfSome (option_map here (result_ok r)) (λ w. read w.text ≡ Ok w.means)
text_read read t (Ok m) is = is
text_read read t (Err e) is = tt

module _ {M K P : Type 0} (engines : Readings M K P) where
  -- the text of a default filter that is written reads to what it means
  abbrev IsRead : WrittenFilter M → Type 0
  IsRead w = engines.read_filter DefaultFilter w.text ≡ Ok w.means

  -- so it is with the default filter of an override, if it writes one
  abbrev WritesRead : {V : Type 0} → (V → OverrideUse M) → V → Type 0
  WritesRead written v = IfSome (written v).default_filter IsRead

  -- and with those of a profile
  abbrev HasRead : LayerProfile M K → Type 0
  HasRead p = IfSome p.default_filter IsRead

  written_read : (o : Option (List ℕ)) → IfSome (written_filter engines o) IsRead
  written_read None = tt
  written_read (Some t) = text_read (engines.read_filter DefaultFilter) t (engines.read_filter DefaultFilter t) refl

  of_rules : (source : Source) (name : Name) (n : ℕ) (os : List OverrideText)
      → Each (WritesRead (λ (r : Compiled M K (OverrideUse M)). r.writes)) (map
      (λ e. override_rule engines (record { source = source; profile = name; index = e.0 }) e.1) (enumerate_from n os))
  of_rules source name n [] = tt
  of_rules source name n (o ∷ os) = (written_read o.default_filter, of_rules source name (n + 1) os)

  filters_of : (source : Source) (ps : List (Name × ProfileText))
      → Each (λ p. HasRead p.1) (layer_of engines source ps).profiles
  filters_of source [] = tt
  filters_of source (p ∷ ps) = (written_read p.1.default_filter, filters_of source ps)

  rules_of : (source : Source) (ps : List (Name × ProfileText))
      → Each (λ p. Each (WritesRead (λ (r : Compiled M K (OverrideUse M)). r.writes)) p.1.overrides)
      (layer_of engines source ps).profiles
  rules_of source [] = tt
  rules_of source (p ∷ ps) = (of_rules source p.0 0 p.1.overrides, rules_of source ps)

  of_sources : (Q : Layer M K → Type 0) → ((s : SourceText) → Q (source_layer engines s)) → (ss : List SourceText)
      → Each (λ s. Q (source_layer engines s)) ss
  of_sources Q each [] = tt
  of_sources Q each (s ∷ ss) = (each s, of_sources Q each ss)

  -- what holds of the layer of each source holds of each layer
  of_layers : (Q : Layer M K → Type 0) → ((s : SourceText) → Q (source_layer engines s)) → (ss : List SourceText)
      → Each Q (reverse (map (source_layer engines) ss))
  of_layers Q each ss =
      each_reversed Q (map (source_layer engines) ss)
      (each_mapped Q (source_layer engines) ss (of_sources Q each ss))

  -- the default filter that a layer writes for a profile
  abbrev written_in : Name → Layer M K → Option (WrittenFilter M)
  written_in name l = option_and_then (λ p. p.default_filter) (at_name name l.profiles)

  choice_read : (profile : Name) (section : FilterSection) (o : Option (WrittenFilter M)) → IfSome o IsRead
      → IfSome (option_map (chosen_at profile section) o) (ReadsToFilter engines)
  choice_read profile section None h = tt
  choice_read profile section (Some w) h = h

  in_layers : (name : Name) (ls : List (Layer M K)) → Each (λ l. Each (λ p. HasRead p.1) l.profiles) ls
      → Each (λ l. IfSome (written_in name l) IsRead) ls
  in_layers name [] h = tt
  in_layers name (l ∷ ls) h = (
    some_part IsRead (λ (p : LayerProfile M K). p.default_filter) (at_name name l.profiles)
        (looked_up HasRead _ l.profiles h.0),
    in_layers name ls h.1,
  )

  of_names : (ls : List (Layer M K)) → Each (λ l. Each (λ p. HasRead p.1) l.profiles) ls → (names : List Name)
      → Each (λ name. IfSome (filter_of_profile ls name) (ReadsToFilter engines)) names
  of_names ls h [] = tt
  of_names ls h (name ∷ names) = (
    choice_read name at_profile (first_of (written_in name) ls)
        (first_holds IsRead (written_in name) ls (in_layers name ls h)),
    of_names ls h names,
  )

  on_platforms : (on : Bool) (profile : Name) (section : FilterSection) (o : Option (WrittenFilter M))
      → IfSome o IsRead → IfSome (cond on (option_map (chosen_at profile section) o) None) (ReadsToFilter engines)
  on_platforms true profile section o h = choice_read profile section o h
  on_platforms false profile section o h = tt

  of_overrides : (rs : List (EvaluatedRule M (OverrideUse M)))
      → Each (WritesRead (λ (r : EvaluatedRule M (OverrideUse M)). r.writes)) rs
      → Each (λ r. IfSome (filter_of_override r) (ReadsToFilter engines)) rs
  of_overrides [] h = tt
  of_overrides (r ∷ rs) h = (
    on_platforms r.for_target r.writes.id.profile (at_override r.writes.id.index) r.writes.default_filter h.0,
    of_overrides rs h.1,
  )

  pub filters_are_read : (platforms : BuildPlatforms P) (a : AcceptedFiles engines) (name : Name) (chain : List Name)
      → let choice = (profile_by engines platforms a name chain).default_filter in
      ReadsToFilter engines choice ⊎ (choice ≡ match_all_filter engines.match_all)
  filters_are_read platforms a name chain =
      let names = with_default chain in
      let ss = sources_in a.files in
      let layers = (meant_by engines a).config.layers in
      let on : Compiled M K (OverrideUse M) → EvaluatedRule M (OverrideUse M) = rule_on engines.meets platforms in
      let rules : List (Compiled M K (OverrideUse M)) = overrides_of layers names in
      let near : IfSome (nearest_filter layers names) (ReadsToFilter engines) =
      first_holds (ReadsToFilter engines) (filter_of_profile layers) names
      (of_names layers (of_layers (λ l. Each (λ p. HasRead p.1) l.profiles)
      (λ s. filters_of s.source (own_file s).profiles) ss) names) in
      let written : Each (WritesRead (λ (r : Compiled M K (OverrideUse M)). r.writes)) rules =
      each_gathered (WritesRead (λ (r : Compiled M K (OverrideUse M)). r.writes)) (λ p. p.overrides) layers names
      (of_layers (λ l. Each (λ p. Each (WritesRead (λ (r : Compiled M K (OverrideUse M)). r.writes)) p.1.overrides)
      l.profiles) (λ s. rules_of s.source (own_file s).profiles) ss) in
      let evaluated : Each (WritesRead (λ (r : EvaluatedRule M (OverrideUse M)). r.writes)) (map on rules) =
      each_image (WritesRead (λ (r : EvaluatedRule M (OverrideUse M)). r.writes)) on rules written in
      counts (ReadsToFilter engines) (first_of filter_of_override (map on rules)) (nearest_filter layers names)
      (match_all_filter engines.match_all)
      (first_holds (ReadsToFilter engines) filter_of_override (map on rules) (of_overrides (map on rules) evaluated))
      near
