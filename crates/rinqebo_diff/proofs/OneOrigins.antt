-- What origins are those of determines the owners of their files, and what they have beside these.
use Rattle.std.proofs.Common.{◌≡◌, ◌∙◌, ℕ, zero, suc, false, List, [], ◌∷◌, ◌++◌, Option, None, Some, map, option_map, option_and_then, string_bytes, refl, sym, ap, subst}
use Rattle.std.specs.Prelude.{slice_get}
use Rattle.std.specs.List.{AllByRecursion, AllZip}
use Rattle.std.proofs.lemmas.Option.{slice_get-map}
use Rattle.nextest_documents.specs.Shown.{Path}
use Rattle.nextest_documents.specs.Grounds.{AreGrounds, ShowsLeafBelow, Writes, profile_path}
use Rattle.nextest_settings.specs.Queries.{Origin as Decider, unwritten, by_profile, by_override, by_script}
use Rattle.nextest_sources.specs.Sources.{Source as File, SourceKind as Brought, tool_file, organisation_file, explicit_file, discovered_file}
use Rattle.nextest_tables.specs.Written.{Name}
use Rattle.nextest_tree.specs.Node.{Node}
use Rattle.rinqebo_request.specs.Files.Origins.{HasNoFile, IsFileAt, file_of, reported_file, reported_kind}
use Rattle.rinqebo_request.specs.declared.files.layers.Layer.{Layer}
use Rattle.rinqebo_report.specs.declared.origin.Origin.{Origin}
use Rattle.rinqebo_report.specs.declared.origin.Origin.TheVariants as kinds
use Rattle.rinqebo_report.specs.declared.origin.Part.{Part}
use Rattle.rinqebo_report.specs.declared.origin.Part.TheVariants as parts
use Rattle.rinqebo_report.specs.declared.origin.Source.{Source}
use Rattle.rinqebo_report.specs.declared.origin.SourceKind.{SourceKind}
use Rattle.rinqebo_report.specs.declared.origin.SourceKind.TheVariants as told
use Rattle.rinqebo_report.specs.declared.origin.Written.{Written}
use Rattle.rinqebo_origins.specs.KnownOrigins.{AreOriginsAt}
use Rattle.rinqebo_origins.specs.Origins.{IsOriginOf, IsWrittenAt, PathStep, key_steps}
use Rattle.rinqebo_origins.specs.ProfileOrigins.{AreProfileOrigins, AreWrittenOrigins, HasNoReport, IsBuiltIn, IsLayerOrigin, built_in, key_path, is_rule_key, no_key, no_leaf, no_profile, no_report, written}
use Rattle.rinqebo_origins.specs.RulePlaces.{Place, id_place}
use Rattle.rinqebo_origins.specs.TestOrigins.{AreOriginsBy, wrapping_places}
use Rattle.rinqebo_origins.specs.Trees.{trees_of}
use Rattle.nextest_rules.specs.Rules.{RuleId}
use Rattle.rinqebo_changes.specs.SourceViews.{Owner, of_organisation, of_repository, of_tool, owned_view, owner_at, owner_of}
use Rattle.rinqebo_changes.specs.SourceViews as seen
use Rattle.rinqebo_diff.proofs.InOrder.{all_contains, same_descending}

-- ---- lists

-- what is beside the same is seen alike, if each is
seen_alike : {A B C : Type 0} (R : A → B → Type 0) (f g : B → C)
    → ((a : A) (b c : B) → R a b → R a c → f b ≡ g c)
    → (ps : List A) (qs rs : List B) → AllZip R ps qs → AllZip R ps rs → map f qs ≡ map g rs
seen_alike R f g turn [] [] [] one two = refl
seen_alike R f g turn [] [] (c ∷ rs) one two = absurd two
seen_alike R f g turn [] (b ∷ qs) rs one two = absurd one
seen_alike R f g turn (a ∷ ps) [] rs one two = absurd one
seen_alike R f g turn (a ∷ ps) (b ∷ qs) [] one two = absurd two
seen_alike R f g turn (a ∷ ps) (b ∷ qs) (c ∷ rs) one two =
    λ i. turn a b c one.0 two.0 i ∷ seen_alike R f g turn ps qs rs one.1 two.1 i

-- one that fails for all is none of some
among : {X : Type 0} (P : X → Type 0) (x : X) (front back : List X) → AllByRecursion (λ y. P y → ⊥) (front ++ x ∷ back)
    → P x → ⊥
among P x [] back none is = none.0 is
among P x (y ∷ front) back none is = among P x front back none.1 is

-- the first that passes is one
one_first : {X : Type 0} (P : X → Type 0) (x y : X) (front back before after : List X)
    → AllByRecursion (λ z. P z → ⊥) front → P x → AllByRecursion (λ z. P z → ⊥) before → P y
    → front ++ x ∷ back ≡ before ++ y ∷ after → x ≡ y
one_first P x y [] back [] after none is never has same = cc
one_first P x y [] back (z ∷ before) after none is never has same =
    let first : x ≡ z = cc in absurd (never.0 (subst P first is))
one_first P x y (z ∷ front) back [] after none is never has same =
    let first : z ≡ y = cc in absurd (none.0 (subst P (sym first) has))
one_first P x y (z ∷ front) back (w ∷ before) after none is never has same =
    let rest : front ++ x ∷ back ≡ before ++ y ∷ after = cc in
    one_first P x y front back before after none.1 is never.1 has rest

-- ---- files

-- the owner of a file, by what brings it
abbrev owner_by : Brought → Owner
owner_by (tool_file name) = of_tool name
owner_by organisation_file = of_organisation
owner_by explicit_file = of_repository
owner_by discovered_file = of_repository

abbrev file_at : List ℕ → Brought → File
file_at path brought = record { path = path; kind = brought }

one_owner : (path : List ℕ) (brought : Brought) (file : File) → Some (file_at path brought) ≡ Some file
    → owner_by brought ≡ owner_by file.kind
one_owner path brought file is =
    let same : file_at path brought ≡ file = cc in ap (λ (f : File). owner_by f.kind) same

kind_brought : (kind : SourceKind) (path : Option (List ℕ)) (file : File)
    → option_and_then (file_of (reported_kind kind)) path ≡ Some file → owner_of kind ≡ owner_by file.kind
kind_brought kind None file is = absurd (let none : None ≡ Some file = is in cc)
kind_brought told.Default (Some path) file is = absurd (let none : None ≡ Some file = is in cc)
kind_brought (told.Tool name) (Some path) file is = one_owner path (tool_file (string_bytes name)) file is
kind_brought told.Organisation (Some path) file is = one_owner path organisation_file file is
kind_brought told.Explicit (Some path) file is = one_owner path explicit_file file is
kind_brought told.Discovered (Some path) file is = one_owner path discovered_file file is

-- the source of a file has the file's owner
owner_brought : (source : Source) (file : File) → reported_file source ≡ Some file
    → owner_of source.kind ≡ owner_by file.kind
owner_brought source file is = kind_brought source.kind (option_map string_bytes source.path) file is

-- the file of a layer, if it is one
abbrev pub layer_file : Layer → Option File
layer_file layer = reported_file layer.source

-- Each layer but the lowest one is a file.
pub record AreFiles (layers : List Layer) : Type 0 where
  pub each : (n : ℕ) (layer : Layer) → slice_get layers (suc n) ≡ Some layer
      → (file : File) × (layer_file layer ≡ Some file)

-- no layer is a file that a layer is
in_no_file : (layers : List Layer) (file : File) (n : ℕ) → HasNoFile layers file → IsFileAt layers file n → ⊥
in_no_file [] file n none is = absurd (let none : None ≡ Some file = is in cc)
in_no_file (layer ∷ layers) file zero none is = none.0 is
in_no_file (layer ∷ layers) file (suc n) none is = in_no_file layers file n none.1 is

module _ (layers : List Layer) where
  -- sources are those of the layers
  abbrev pub AreSources : List Source → Type 0
  AreSources sources = map reported_file sources ≡ map layer_file layers

  file_alike : (sources : List Source) → AreSources sources → (n : ℕ)
      → option_map reported_file (slice_get sources n) ≡ option_map layer_file (slice_get layers n)
  file_alike sources are n =
      sym (slice_get-map reported_file sources n) ∙ ap (λ files. slice_get files n) are
      ∙ slice_get-map layer_file layers n

  owner_in : (source : Option Source) (layer : Option Layer) (file : File)
      → option_map reported_file source ≡ option_map layer_file layer → option_and_then layer_file layer ≡ Some file
      → option_map (λ s. owner_of s.kind) source ≡ Some (owner_by file.kind)
  owner_in source None file same is = absurd (let none : None ≡ Some file = is in cc)
  owner_in None (Some layer) file same is = absurd (let none : None ≡ Some (layer_file layer) = same in cc)
  owner_in (Some source) (Some layer) file same is =
      let both : Some (reported_file source) ≡ Some (layer_file layer) = same in
      let one : reported_file source ≡ layer_file layer = cc in
      ap Some (owner_brought source file (one ∙ is))

  -- the source of a layer that is a file has the file's owner
  owner_there : (sources : List Source) → AreSources sources → (file : File) (n : ℕ) → IsFileAt layers file n
      → owner_at sources n ≡ Some (owner_by file.kind)
  owner_there sources are file n is =
      owner_in (slice_get sources n) (slice_get layers n) file (file_alike sources are n) is

  none_there : (source : Option Source) → option_map reported_file source ≡ None
      → option_map (λ s. owner_of s.kind) source ≡ None
  none_there None is = refl
  none_there (Some source) is = absurd (let none : Some (reported_file source) ≡ None = is in cc)

  module _ (s t : List Source) (one_s : AreSources s) (one_t : AreSources t) (files : AreFiles layers) where
    -- one file has one owner
    file_owners : (file : File) (n m : ℕ) → IsFileAt layers file n → IsFileAt layers file m
        → owner_at s n ≡ owner_at t m
    file_owners file n m one two = owner_there s one_s file n one ∙ sym (owner_there t one_t file m two)

    layer_owner_by : (n : ℕ) (layer : Option Layer) → slice_get layers (suc n) ≡ layer
        → owner_at s (suc n) ≡ owner_at t (suc n)
    layer_owner_by n None is =
        none_there (slice_get s (suc n)) (file_alike s one_s (suc n) ∙ ap (option_map layer_file) is)
        ∙ sym (none_there (slice_get t (suc n)) (file_alike t one_t (suc n) ∙ ap (option_map layer_file) is))
    layer_owner_by n (Some layer) is =
        let has = files.each n layer is in
        let there : IsFileAt layers has.0 (suc n) = ap (option_and_then layer_file) is ∙ has.1 in
        file_owners has.0 (suc n) (suc n) there there

    -- a layer that is a file has one owner
    layer_owners : (n : ℕ) → owner_at s (suc n) ≡ owner_at t (suc n)
    layer_owners n = layer_owner_by n (slice_get layers (suc n)) refl

    -- what is written in one part of a profile, in layers of one owner, is alike
    written_alike : (n m : ℕ) (profile : Name) (part : Part) (rest : List PathStep) (a b : Written)
        → owner_at s n ≡ owner_at t m → IsWrittenAt layers n profile part rest a
        → IsWrittenAt layers m profile part rest b → owned_view s (kinds.Written a) ≡ owned_view t (kinds.Written b)
    written_alike n m profile part rest a b owners one two =
        let here : owner_at s a.place.source ≡ owner_at t b.place.source =
        ap (owner_at s) one.place_reported.source ∙ owners ∙ ap (owner_at t) (sym two.place_reported.source) in
        let profiles : string_bytes a.profile ≡ string_bytes b.profile =
        one.profile_reported ∙ sym two.profile_reported in
        let same : a.part ≡ b.part = one.part_reported ∙ sym two.part_reported in
        λ i. seen.written (here i) (profiles i, same i)

    layer_alike : (profile : Name) (table : Option (List ℕ)) (name : List ℕ) (n : ℕ) (a b : Origin)
        → IsLayerOrigin layers profile table name n a → IsLayerOrigin layers profile table name n b
        → owned_view s a ≡ owned_view t b
    layer_alike profile table name zero a b one two = ap (owned_view s) one ∙ ap (owned_view t) (sym two)
    layer_alike profile table name (suc n) (kinds.Written a) (kinds.Written b) one two =
        written_alike (suc n) (suc n) profile parts.Fields (key_steps table name) a b (layer_owners n) one two
    layer_alike profile table name (suc n) (kinds.Written a) kinds.BuiltIn one two = absurd two
    layer_alike profile table name (suc n) (kinds.Written a) kinds.DefaultTable one two = absurd two
    layer_alike profile table name (suc n) (kinds.Written a) (kinds.File b) one two = absurd two
    layer_alike profile table name (suc n) kinds.BuiltIn b one two = absurd one
    layer_alike profile table name (suc n) kinds.DefaultTable b one two = absurd one
    layer_alike profile table name (suc n) (kinds.File a) b one two = absurd one

    one_positions : (trees : List Node) (p : Path) (ns ms : List ℕ) → AreGrounds trees p ns → AreGrounds trees p ms
        → ns ≡ ms
    one_positions trees p ns ms one two = same_descending ns ms one.descend two.descend
        (λ n has. two.complete n (all_contains (ShowsLeafBelow trees p) ns n one.sound has))
        (λ n has. one.complete n (all_contains (ShowsLeafBelow trees p) ms n two.sound has))

    module _ (chain : List Name) (table : Option (List ℕ)) (name : List ℕ) where
      -- what a chain writes is alike
      chain_alike : (xs ys : List Origin) → AreWrittenOrigins layers chain table name xs
          → AreWrittenOrigins layers chain table name ys → map (owned_view s) xs ≡ map (owned_view t) ys
      chain_alike xs ys one two =
          let trees = trees_of layers in
          let path = key_path table name in
          let same : one.profile ≡ two.profile =
          one_first (Writes trees path) one.profile two.profile one.nearer one.farther two.nearer two.farther
          one.nearest one.writes two.nearest two.writes (sym one.splits ∙ two.splits) in
          let grounds : AreGrounds trees (profile_path one.profile ++ path) two.positions =
          subst (λ profile. AreGrounds trees (profile_path profile ++ path) two.positions) (sym same) two.are_grounds in
          let positions : one.positions ≡ two.positions =
          one_positions trees (profile_path one.profile ++ path) one.positions two.positions one.are_grounds grounds in
          let Is : ℕ → Origin → Type 0 = IsLayerOrigin layers one.profile table name in
          let named : AllZip Is two.positions ys =
          subst (λ profile. AllZip (IsLayerOrigin layers profile table name) two.positions ys) (sym same) two.told in
          let there : AllZip Is one.positions ys = subst (λ ns. AllZip Is ns ys) (sym positions) named in
          seen_alike Is (owned_view s) (owned_view t) (λ n a b. layer_alike one.profile table name n a b) one.positions
          xs ys one.told there

      none_seen : (xs : List Origin) → [] ≡ map (owned_view t) xs → xs ≡ []
      none_seen [] is = refl
      none_seen (x ∷ xs) is = absurd cc

      -- what is written is not built in
      not_built_in : (xs : List Origin) → IsBuiltIn layers chain table name → is_rule_key table name ≡ false
          → (HasNoReport (trees_of layers) chain table → ⊥) → AreWrittenOrigins layers chain table name xs
          → (xs ≡ [] → ⊥) → ⊥
      not_built_in xs (no_key is) no_rule report are some = absurd cc
      not_built_in xs (no_report is) no_rule report are some = report is
      not_built_in xs (no_profile none) no_rule report are some =
          let Unwritten : Name → Type 0 = λ name'. Writes (trees_of layers) (key_path table name) name' → ⊥ in
          among (Writes (trees_of layers) (key_path table name)) are.profile are.nearer are.farther
          (subst (AllByRecursion Unwritten) are.splits none) are.writes
      not_built_in xs (no_leaf empty) no_rule report are some = some (none_seen xs (chain_alike [] xs empty are))

      -- what counts of a chain is alike
      profile_alike : (xs ys : List Origin) → AreProfileOrigins layers chain table name xs
          → AreProfileOrigins layers chain table name ys → map (owned_view s) xs ≡ map (owned_view t) ys
      profile_alike xs ys (built_in none is) (built_in never same) =
          ap (map (owned_view s)) is ∙ ap (map (owned_view t)) (sym same)
      profile_alike xs ys (built_in none is) (written no_rule report are some) =
          absurd (not_built_in ys none no_rule report are some)
      profile_alike xs ys (written no_rule report are some) (built_in none is) =
          absurd (not_built_in xs none no_rule report are some)
      profile_alike xs ys (written no_rule report are some) (written other reported are' some') =
          chain_alike xs ys are are'

    -- origins in one rule are alike
    rule_alike : (rest : List PathStep) (place : Place) (a b : Origin) → IsOriginOf layers place rest a
        → IsOriginOf layers place rest b → owned_view s a ≡ owned_view t b
    rule_alike rest place (kinds.Written a) (kinds.Written b) one two =
        written_alike one.at two.at place.profile place.part rest a b
        (file_owners place.source one.at two.at one.is_file two.is_file) one.is_written two.is_written
    rule_alike rest place (kinds.Written a) kinds.BuiltIn one two =
        absurd (in_no_file layers place.source one.at two one.is_file)
    rule_alike rest place (kinds.Written a) kinds.DefaultTable one two = absurd two
    rule_alike rest place (kinds.Written a) (kinds.File b) one two = absurd two
    rule_alike rest place kinds.BuiltIn (kinds.Written b) one two =
        absurd (in_no_file layers place.source two.at one two.is_file)
    rule_alike rest place kinds.BuiltIn kinds.BuiltIn one two = refl
    rule_alike rest place kinds.BuiltIn kinds.DefaultTable one two = absurd two
    rule_alike rest place kinds.BuiltIn (kinds.File b) one two = absurd two
    rule_alike rest place kinds.DefaultTable b one two = absurd one
    rule_alike rest place (kinds.File a) b one two = absurd one

    rules_alike : (rest : List PathStep) (places : List Place) (xs ys : List Origin)
        → AllZip (λ place. IsOriginOf layers place rest) places xs
        → AllZip (λ place. IsOriginOf layers place rest) places ys → map (owned_view s) xs ≡ map (owned_view t) ys
    rules_alike rest places xs ys one two =
        seen_alike (λ place. IsOriginOf layers place rest) (owned_view s) (owned_view t)
        (λ place a b. rule_alike rest place a b) places xs ys one two

    -- origins of one value are alike, by what decides it
    pub decided_alike : (chain : List Name) (wrapping : Option RuleId) (table : Option (List ℕ)) (name : List ℕ)
        (decider : Option Decider) (xs ys : List Origin)
        → AreOriginsBy (record { layers = layers; chain = chain }) wrapping table name decider xs
        → AreOriginsBy (record { layers = layers; chain = chain }) wrapping table name decider ys
        → map (owned_view s) xs ≡ map (owned_view t) ys
    decided_alike chain wrapping table name None xs ys one two =
        ap (map (owned_view s)) one ∙ ap (map (owned_view t)) (sym two)
    decided_alike chain wrapping table name (Some unwritten) xs ys one two =
        ap (map (owned_view s)) one ∙ ap (map (owned_view t)) (sym two)
    decided_alike chain wrapping table name (Some by_profile) xs ys one two =
        profile_alike chain table name xs ys one two
    decided_alike chain wrapping table name (Some (by_override id)) xs ys one two =
        rules_alike (key_steps table name) (id_place id ∷ []) xs ys one two
    decided_alike chain wrapping table name (Some by_script) xs ys one two =
        rules_alike (key_steps table name) (wrapping_places wrapping) xs ys one two

    -- and by the rule that it comes from, if it comes from one
    pub placed_alike : (chain : List Name) (place : Option Place) (table : Option (List ℕ)) (name : List ℕ)
        (xs ys : List Origin) → AreOriginsAt (record { layers = layers; chain = chain }) place table name xs
        → AreOriginsAt (record { layers = layers; chain = chain }) place table name ys
        → map (owned_view s) xs ≡ map (owned_view t) ys
    placed_alike chain None table name xs ys one two = profile_alike chain table name xs ys one two
    placed_alike chain (Some place) table name xs ys one two =
        rules_alike (key_steps table name) (place ∷ []) xs ys one two
