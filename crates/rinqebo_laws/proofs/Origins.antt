-- What origins are those of determines what is shown of them.
use Rattle.std.proofs.Common.{◌≡◌, ◌∙◌, ℕ, zero, suc, false, List, [], ◌∷◌, ◌++◌, Option, None, Some, map, option_and_then, slice_get, string_bytes, codes, refl, sym, ap, subst}
use Rattle.std.specs.List.{AllByRecursion, AllZip}
use Rattle.nextest_documents.specs.Shown.{Path}
use Rattle.nextest_documents.specs.Grounds.{AreGrounds, ShowsLeafBelow, Writes, profile_path}
use Rattle.nextest_places.specs.declared.step.Step.{Step}
use Rattle.nextest_rules.specs.Rules.{RuleId}
use Rattle.nextest_settings.specs.Queries.{Origin as Decider, unwritten, by_profile, by_override, by_script}
use Rattle.nextest_sources.specs.Sources.{Source}
use Rattle.nextest_tables.specs.Written.{Name}
use Rattle.nextest_tree.specs.Node.{Node}
use Rattle.rinqebo_request.specs.Files.Origins.{HasNoFile, IsFileAt}
use Rattle.rinqebo_request.specs.declared.files.layers.Layer.{Layer}
use Rattle.rinqebo_laws.proofs.Lists.{all_contains, among, one_first, same_descending, seen_alike}
use Rattle.rinqebo_laws.proofs.Places.{one_lines}
use Rattle.rinqebo_laws.specs.Shown.{origin_shown, part_of, under_profile}
use Rattle.rinqebo_report.specs.declared.origin.Origin.{Origin}
use Rattle.rinqebo_report.specs.declared.origin.Origin.TheVariants as kinds
use Rattle.rinqebo_report.specs.declared.origin.Part.{Part}
use Rattle.rinqebo_report.specs.declared.origin.Part.TheVariants as parts
use Rattle.rinqebo_report.specs.declared.origin.Written.{Written}
use Rattle.rinqebo_origins.specs.KnownOrigins.{AreOriginsAt}
use Rattle.rinqebo_origins.specs.Origins.{IsOriginOf, IsWrittenAt, PathStep, key, key_steps, part_steps, profile_steps, step_view}
use Rattle.rinqebo_origins.specs.ProfileOrigins.{AreProfileOrigins, AreWrittenOrigins, HasNoReport, IsBuiltIn, IsLayerOrigin, built_in, key_path, is_rule_key, no_key, no_leaf, no_profile, no_report, written}
use Rattle.rinqebo_origins.specs.RulePlaces.{Place, id_place}
use Rattle.rinqebo_origins.specs.TestOrigins.{AreOriginsBy, wrapping_places}
use Rattle.rinqebo_origins.specs.Trees.{trees_of}

-- a path in a profile has a step
pub has_steps : (path : List Step) (profile : Name) (part : Part) (rest : List PathStep)
    → map step_view path ≡ profile_steps profile part ++ rest → path ≡ [] → ⊥
has_steps path profile part rest is none =
    let empty : [] ≡ key (codes "profile") ∷ (key profile ∷ (part_steps part ++ rest)) =
    ap (map step_view) (sym none) ∙ is in
    absurd cc

-- no layer is a file that a layer is
in_no_file : (layers : List Layer) (file : Source) (n : ℕ) → HasNoFile layers file → IsFileAt layers file n → ⊥
in_no_file [] file n none is = absurd cc
in_no_file (layer ∷ layers) file zero none is = none.0 is
in_no_file (layer ∷ layers) file (suc n) none is = in_no_file layers file n none.1 is

none_shown : (origins : List Origin) → [] ≡ map origin_shown origins → origins ≡ []
none_shown [] is = refl
none_shown (origin ∷ origins) is = absurd cc

module _ (layers : List Layer) where
  -- what is written at one path of a layer is shown alike
  written_alike : (at : ℕ) (profile : Name) (part : Part) (rest : List PathStep) (a b : Written)
      → IsWrittenAt layers at profile part rest a → IsWrittenAt layers at profile part rest b
      → origin_shown (kinds.Written a) ≡ origin_shown (kinds.Written b)
  written_alike at profile part rest a b one other =
      let profiles : string_bytes a.profile ≡ string_bytes b.profile = one.profile_reported ∙ sym other.profile_reported in
      let parts : a.part ≡ b.part = one.part_reported ∙ sym other.part_reported in
      let sources : a.place.source ≡ b.place.source = one.place_reported.source ∙ sym other.place_reported.source in
      let lines : a.place.lines ≡ b.place.lines =
      one_lines (option_and_then (λ layer. layer.places) (slice_get layers at)) one.path other.path a.place.lines
      b.place.lines (one.spelled ∙ sym other.spelled) (has_steps one.path profile part rest one.spelled)
      one.place_reported.lines other.place_reported.lines in
      λ i. under_profile (profiles i) (parts i) (sources i) (lines i)

  layer_shown : (profile : Name) (table : Option (List ℕ)) (name : List ℕ) (n : ℕ) (a b : Origin)
      → IsLayerOrigin layers profile table name n a → IsLayerOrigin layers profile table name n b
      → origin_shown a ≡ origin_shown b
  layer_shown profile table name zero a b one other = ap origin_shown (one ∙ sym other)
  layer_shown profile table name (suc n) (kinds.Written a) (kinds.Written b) one other =
      written_alike (suc n) profile parts.Fields (key_steps table name) a b one other
  layer_shown profile table name (suc n) (kinds.Written a) kinds.BuiltIn one other = absurd other
  layer_shown profile table name (suc n) (kinds.Written a) kinds.DefaultTable one other = absurd other
  layer_shown profile table name (suc n) (kinds.Written a) (kinds.File b) one other = absurd other
  layer_shown profile table name (suc n) kinds.BuiltIn b one other = absurd one
  layer_shown profile table name (suc n) kinds.DefaultTable b one other = absurd one
  layer_shown profile table name (suc n) (kinds.File a) b one other = absurd one

  one_positions : (trees : List Node) (p : Path) (ns ms : List ℕ) → AreGrounds trees p ns → AreGrounds trees p ms
      → ns ≡ ms
  one_positions trees p ns ms one other = same_descending ns ms one.descend other.descend
      (λ n has. other.complete n (all_contains (ShowsLeafBelow trees p) ns n one.sound has))
      (λ n has. one.complete n (all_contains (ShowsLeafBelow trees p) ms n other.sound has))

  module _ (chain : List Name) (table : Option (List ℕ)) (name : List ℕ) where
    -- what a chain writes is shown alike
    chain_shown : (xs ys : List Origin) → AreWrittenOrigins layers chain table name xs
        → AreWrittenOrigins layers chain table name ys → map origin_shown xs ≡ map origin_shown ys
    chain_shown xs ys one other =
        let trees = trees_of layers in
        let path = key_path table name in
        let same : one.profile ≡ other.profile =
        one_first (Writes trees path) one.profile other.profile one.nearer one.farther other.nearer other.farther
        one.nearest one.writes other.nearest other.writes (sym one.splits ∙ other.splits) in
        let grounds : AreGrounds trees (profile_path one.profile ++ path) other.positions =
        subst (λ profile. AreGrounds trees (profile_path profile ++ path) other.positions) (sym same) other.are_grounds in
        let positions : one.positions ≡ other.positions =
        one_positions trees (profile_path one.profile ++ path) one.positions other.positions one.are_grounds grounds in
        let Is : ℕ → Origin → Type 0 = IsLayerOrigin layers one.profile table name in
        let named : AllZip Is other.positions ys =
        subst (λ profile. AllZip (IsLayerOrigin layers profile table name) other.positions ys) (sym same) other.told in
        let told : AllZip Is one.positions ys = subst (λ ns. AllZip Is ns ys) (sym positions) named in
        seen_alike Is Is origin_shown origin_shown (λ n a b. layer_shown one.profile table name n a b) one.positions xs ys
        one.told told

    -- what is written is not built in
    not_built_in : (xs : List Origin) → IsBuiltIn layers chain table name → is_rule_key table name ≡ false
        → (HasNoReport (trees_of layers) chain table → ⊥) → AreWrittenOrigins layers chain table name xs
        → (xs ≡ [] → ⊥) → ⊥
    not_built_in xs (no_key is) no_rule report are some = absurd cc
    not_built_in xs (no_report is) no_rule report are some = report is
    not_built_in xs (no_profile none) no_rule report are some =
        let Unwritten : Name → Type 0 = λ name'. Writes (trees_of layers) (key_path table name) name' → ⊥ in
        among (Writes (trees_of layers) (key_path table name)) are.profile are.nearer are.farther
        (subst (AllByRecursion Unwritten) are.splits none) are.writes
    not_built_in xs (no_leaf empty) no_rule report are some = some (none_shown xs (chain_shown [] xs empty are))

    -- what a chain writes is shown alike
    pub profile_shown : (xs ys : List Origin) → AreProfileOrigins layers chain table name xs
        → AreProfileOrigins layers chain table name ys → map origin_shown xs ≡ map origin_shown ys
    profile_shown xs ys (built_in none is) (built_in never same) = ap (map origin_shown) (is ∙ sym same)
    profile_shown xs ys (built_in none is) (written no_rule report are some) =
        absurd (not_built_in ys none no_rule report are some)
    profile_shown xs ys (written no_rule report are some) (built_in none is) =
        absurd (not_built_in xs none no_rule report are some)
    profile_shown xs ys (written no_rule report are some) (written other reported are' some') =
        chain_shown xs ys are are'

  -- where a file is one layer
  module _ (one_layer : (file : Source) (n m : ℕ) → IsFileAt layers file n → IsFileAt layers file m → n ≡ m) where
    -- origins in one rule are in the same part of a profile
    pub rule_part : (place : Place) (rest more : List PathStep) (a b : Origin) → IsOriginOf layers place rest a
        → IsOriginOf layers place more b → part_of a ≡ part_of b
    rule_part place rest more (kinds.Written a) (kinds.Written b) one other =
        let at : one.at ≡ other.at = one_layer place.source one.at other.at one.is_file other.is_file in
        let profiles : string_bytes a.profile ≡ string_bytes b.profile =
        one.is_written.profile_reported ∙ sym other.is_written.profile_reported in
        let parts : a.part ≡ b.part = one.is_written.part_reported ∙ sym other.is_written.part_reported in
        let sources : a.place.source ≡ b.place.source =
        one.is_written.place_reported.source ∙ at ∙ sym other.is_written.place_reported.source in
        λ i. Some (record { profile = profiles i; part = parts i; source = sources i })
    rule_part place rest more (kinds.Written a) kinds.BuiltIn one other =
        absurd (in_no_file layers place.source one.at other one.is_file)
    rule_part place rest more (kinds.Written a) kinds.DefaultTable one other = absurd other
    rule_part place rest more (kinds.Written a) (kinds.File b) one other = absurd other
    rule_part place rest more kinds.BuiltIn (kinds.Written b) one other =
        absurd (in_no_file layers place.source other.at one other.is_file)
    rule_part place rest more kinds.BuiltIn kinds.BuiltIn one other = refl
    rule_part place rest more kinds.BuiltIn kinds.DefaultTable one other = absurd other
    rule_part place rest more kinds.BuiltIn (kinds.File b) one other = absurd other
    rule_part place rest more kinds.DefaultTable b one other = absurd one
    rule_part place rest more (kinds.File a) b one other = absurd one

    -- origins of one thing in a rule are shown alike
    rule_shown : (rest : List PathStep) (place : Place) (a b : Origin) → IsOriginOf layers place rest a
        → IsOriginOf layers place rest b → origin_shown a ≡ origin_shown b
    rule_shown rest place (kinds.Written a) (kinds.Written b) one other =
        let at : one.at ≡ other.at = one_layer place.source one.at other.at one.is_file other.is_file in
        written_alike one.at place.profile place.part rest a b one.is_written
        (subst (λ n. IsWrittenAt layers n place.profile place.part rest b) (sym at) other.is_written)
    rule_shown rest place (kinds.Written a) kinds.BuiltIn one other =
        absurd (in_no_file layers place.source one.at other one.is_file)
    rule_shown rest place (kinds.Written a) kinds.DefaultTable one other = absurd other
    rule_shown rest place (kinds.Written a) (kinds.File b) one other = absurd other
    rule_shown rest place kinds.BuiltIn (kinds.Written b) one other =
        absurd (in_no_file layers place.source other.at one other.is_file)
    rule_shown rest place kinds.BuiltIn kinds.BuiltIn one other = refl
    rule_shown rest place kinds.BuiltIn kinds.DefaultTable one other = absurd other
    rule_shown rest place kinds.BuiltIn (kinds.File b) one other = absurd other
    rule_shown rest place kinds.DefaultTable b one other = absurd one
    rule_shown rest place (kinds.File a) b one other = absurd one

    rules_shown : (rest : List PathStep) (places : List Place) (xs ys : List Origin)
        → AllZip (λ place. IsOriginOf layers place rest) places xs
        → AllZip (λ place. IsOriginOf layers place rest) places ys → map origin_shown xs ≡ map origin_shown ys
    rules_shown rest places xs ys one other =
        seen_alike (λ place. IsOriginOf layers place rest) (λ place. IsOriginOf layers place rest) origin_shown
        origin_shown (λ place a b. rule_shown rest place a b) places xs ys one other

    -- origins of one value are shown alike, by what decides it
    pub decided_shown : (chain : List Name) (wrapping : Option RuleId) (table : Option (List ℕ)) (name : List ℕ)
        (decider : Option Decider) (xs ys : List Origin)
        → AreOriginsBy (record { layers = layers; chain = chain }) wrapping table name decider xs
        → AreOriginsBy (record { layers = layers; chain = chain }) wrapping table name decider ys
        → map origin_shown xs ≡ map origin_shown ys
    decided_shown chain wrapping table name None xs ys one other = ap (map origin_shown) (one ∙ sym other)
    decided_shown chain wrapping table name (Some unwritten) xs ys one other = ap (map origin_shown) (one ∙ sym other)
    decided_shown chain wrapping table name (Some by_profile) xs ys one other =
        profile_shown chain table name xs ys one other
    decided_shown chain wrapping table name (Some (by_override id)) xs ys one other =
        rules_shown (key_steps table name) (id_place id ∷ []) xs ys one other
    decided_shown chain wrapping table name (Some by_script) xs ys one other =
        rules_shown (key_steps table name) (wrapping_places wrapping) xs ys one other

    -- and by the rule that it comes from, if it comes from one
    pub placed_shown : (chain : List Name) (place : Option Place) (table : Option (List ℕ)) (name : List ℕ)
        (xs ys : List Origin) → AreOriginsAt (record { layers = layers; chain = chain }) place table name xs
        → AreOriginsAt (record { layers = layers; chain = chain }) place table name ys
        → map origin_shown xs ≡ map origin_shown ys
    placed_shown chain None table name xs ys one other = profile_shown chain table name xs ys one other
    placed_shown chain (Some place) table name xs ys one other =
        rules_shown (key_steps table name) (place ∷ []) xs ys one other
