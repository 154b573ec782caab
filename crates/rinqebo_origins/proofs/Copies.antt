-- Copies of origins report what the origins report.
use Rattle.std.proofs.Common.{◌≡◌, ◌≢◌, ◌∙◌, ℕ, zero, suc, List, [], ◌∷◌, None, Option, Some, Result, Ok, Err, IfOk, Vec, Global, ap, option_map, refl, subst, sym}
use Rattle.std.specs.declared.alloc.AllocError.{AllocError}
use Rattle.std.specs.List.{AllZip}
use Rattle.rinqebo_request.specs.Files.Origins.{IsPathPlace}
use Rattle.rinqebo_request.specs.declared.files.layers.Layer.{Layer}
use Rattle.nextest_tables.specs.Written.{Name}
use Rattle.rinqebo_origins.specs.KnownOrigins.{AreOriginsAt, IsCopyOf, IsKnown}
use Rattle.rinqebo_origins.specs.TestOrigins.{Basis}
use Rattle.rinqebo_origins.specs.declared.origins.KnownOrigins.{KnownOrigins}
use Rattle.rinqebo_report.specs.declared.origin.Origin.{Origin}
use Rattle.rinqebo_report.specs.declared.origin.Origin.TheVariants as kinds
use Rattle.rinqebo_report.specs.declared.origin.Part.{Part}
use Rattle.rinqebo_report.specs.declared.origin.Written.{Written}
use Rattle.rinqebo_origins.specs.Origins.{IsOriginOf, IsWrittenAt, PathStep, key_steps}
use Rattle.rinqebo_origins.specs.ProfileOrigins.{AreProfileOrigins, IsLayerOrigin, built_in, written}
use Rattle.rinqebo_origins.specs.RulePlaces.{Place, place_view}

module _ (layers : List Layer) where
  -- a copy of what is written tells the same
  written_copy : (at : ℕ) (profile : Name) (part : Part) (rest : List PathStep) (from copy : Written)
      → IsCopyOf (kinds.Written from) (kinds.Written copy) → IsWrittenAt layers at profile part rest from
      → IsWrittenAt layers at profile part rest copy
  written_copy at profile part rest from copy same is = record {
    profile_reported = same.1 ∙ is.profile_reported;
    part_reported = same.2 ∙ is.part_reported;
    path = is.path;
    spelled = is.spelled;
    place_reported = subst (λ place. IsPathPlace layers at is.path place) (sym same.0) is.place_reported;
  }

  -- a copy of the origin of a rule
  rule_copy : (place : Place) (rest : List PathStep) (from copy : Origin) → IsCopyOf from copy
      → IsOriginOf layers place rest from → IsOriginOf layers place rest copy
  rule_copy place rest (kinds.Written from) (kinds.Written copy) same is = record {
    at = is.at;
    is_file = is.is_file;
    is_written = written_copy is.at place.profile place.part rest from copy same is.is_written;
  }
  rule_copy place rest (kinds.Written from) kinds.BuiltIn same is = absurd same
  rule_copy place rest (kinds.Written from) kinds.DefaultTable same is = absurd same
  rule_copy place rest (kinds.Written from) (kinds.File other) same is = absurd same
  rule_copy place rest kinds.BuiltIn copy same is = subst (IsOriginOf layers place rest) (sym same) is
  rule_copy place rest kinds.DefaultTable copy same is = absurd is
  rule_copy place rest (kinds.File other) copy same is = absurd is

  -- a copy of the origin of what a profile writes
  layer_copy : (profile : Name) (table : Option (List ℕ)) (name : List ℕ) (at : ℕ) (from copy : Origin)
      → IsCopyOf from copy → IsLayerOrigin layers profile table name at from
      → IsLayerOrigin layers profile table name at copy
  layer_copy profile table name zero from copy same is =
      let default : IsCopyOf kinds.DefaultTable copy = subst (λ o. IsCopyOf o copy) is same in default
  layer_copy profile table name (suc at) (kinds.Written from) (kinds.Written copy) same is =
      written_copy (suc at) profile _ _ from copy same is
  layer_copy profile table name (suc at) (kinds.Written from) kinds.BuiltIn same is = absurd same
  layer_copy profile table name (suc at) (kinds.Written from) kinds.DefaultTable same is = absurd same
  layer_copy profile table name (suc at) (kinds.Written from) (kinds.File other) same is = absurd same
  layer_copy profile table name (suc at) kinds.BuiltIn copy same is = absurd is
  layer_copy profile table name (suc at) kinds.DefaultTable copy same is = absurd is
  layer_copy profile table name (suc at) (kinds.File other) copy same is = absurd is

-- copies report of each what the origins report of it
each_copy : {X : Type 0} (R : X → Origin → Type 0)
    → ((x : X) (from copy : Origin) → IsCopyOf from copy → R x from → R x copy)
    → (xs : List X) (origins copies : List Origin) → AllZip IsCopyOf origins copies → AllZip R xs origins
    → AllZip R xs copies
each_copy R keeps [] [] [] same all = tt
each_copy R keeps [] [] (copy ∷ copies) same all = absurd same
each_copy R keeps [] (origin ∷ origins) copies same all = absurd all
each_copy R keeps (x ∷ xs) [] copies same all = absurd all
each_copy R keeps (x ∷ xs) (origin ∷ origins) [] same all = absurd same
each_copy R keeps (x ∷ xs) (origin ∷ origins) (copy ∷ copies) same all =
    (keeps x origin copy same.0 all.0, each_copy R keeps xs origins copies same.1 all.1)

built_alone : (copies : List Origin) → AllZip IsCopyOf (kinds.BuiltIn ∷ []) copies → copies ≡ kinds.BuiltIn ∷ []
built_alone [] same = absurd same
built_alone (copy ∷ []) same = ap (λ o. o ∷ []) same.0
built_alone (copy ∷ (more ∷ copies)) same = absurd same.1

-- copies of what is built in
built_copy : (origins copies : List Origin) → origins ≡ kinds.BuiltIn ∷ [] → AllZip IsCopyOf origins copies
    → copies ≡ kinds.BuiltIn ∷ []
built_copy origins copies is same = built_alone copies (subst (λ os. AllZip IsCopyOf os copies) is same)

-- copies of some origins are some
some_copies : (origins copies : List Origin) → AllZip IsCopyOf origins copies → origins ≢ [] → copies ≢ []
some_copies [] copies same some = λ none. some refl
some_copies (origin ∷ origins) [] same some = λ none. same
some_copies (origin ∷ origins) (copy ∷ copies) same some = λ none. absurd (cc)

-- copies of what a chain of profiles tells
profile_copies : (layers : List Layer) (chain : List Name) (table : Option (List ℕ)) (name : List ℕ)
    (origins copies : List Origin) → AllZip IsCopyOf origins copies
    → AreProfileOrigins layers chain table name origins → AreProfileOrigins layers chain table name copies
profile_copies layers chain table name origins copies same (built_in none is) =
    built_in none (built_copy origins copies is same)
profile_copies layers chain table name origins copies same (written no_key report are some) =
    written no_key report (record {
      nearer = are.nearer;
      profile = are.profile;
      farther = are.farther;
      splits = are.splits;
      nearest = are.nearest;
      writes = are.writes;
      positions = are.positions;
      are_grounds = are.are_grounds;
      told = each_copy (IsLayerOrigin layers are.profile table name)
          (λ at from copy. layer_copy layers are.profile table name at from copy) are.positions origins copies same
          are.told;
    }) (some_copies origins copies same some)

-- copies report where a value comes from as the origins do
pub copies_at : (basis : Basis) (place : Option Place) (table : Option (List ℕ)) (name : List ℕ)
    (origins copies : List Origin) → AllZip IsCopyOf origins copies → AreOriginsAt basis place table name origins
    → AreOriginsAt basis place table name copies
copies_at basis None table name origins copies same are =
    profile_copies basis.layers basis.chain table name origins copies same are
copies_at basis (Some place) table name origins copies same are =
    each_copy (λ place. IsOriginOf basis.layers place (key_steps table name))
    (λ place from copy. rule_copy basis.layers place (key_steps table name) from copy)
    (place ∷ []) origins copies same are

-- what is kept of a rule, or without one of the chain, at a key is right of it
pub known_at : (basis : Basis) (known : KnownOrigins) (place : Option Place) (table : Option (List ℕ)) (name : List ℕ)
    → option_map place_view known.rule ≡ place → option_map (λ table. table.now) known.key.table ≡ table
    → known.key.key.now ≡ name → IsKnown basis known → AreOriginsAt basis place table name known.origins.items
known_at basis known place table name same_place same_table same_name is =
    subst (λ n. AreOriginsAt basis place table n known.origins.items) same_name
    (subst (λ t. AreOriginsAt basis place t known.key.key.now known.origins.items) same_table
    (subst (λ p. AreOriginsAt basis p (option_map (λ table. table.now) known.key.table) known.key.key.now
    known.origins.items) same_place is))

-- copies that were made tell where a value comes from as the origins do
pub copies_reported : (r : Result (Vec Origin Global) AllocError) (basis : Basis) (place : Option Place)
    (table : Option (List ℕ)) (name : List ℕ) (origins : List Origin)
    → IfOk r (λ copies. AllZip IsCopyOf origins copies.items) → AreOriginsAt basis place table name origins
    → IfOk r (λ copies. AreOriginsAt basis place table name copies.items)
copies_reported (Ok copies) basis place table name origins same are =
    copies_at basis place table name origins copies.items same are
copies_reported (Err error) basis place table name origins same are = tt
