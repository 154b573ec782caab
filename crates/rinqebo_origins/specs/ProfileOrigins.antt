-- Where values of profiles come from, as a report shows it.
use Rattle.std.specs.Prelude.{◌≡◌, ◌≢◌, ◌⊎◌, ◌++◌, ℕ, zero, suc, List, [], ◌∷◌, Option, None, Some, Vec, Bool, true, false, codes, if◌then◌else◌}
use Rattle.std.specs.declared.alloc.Global.{Global}
use Rattle.std.specs.List.{AllByRecursion, AllZip}
use Rattle.std.specs.Str.{bytes_eq}
use Rattle.nextest_documents.specs.Grounds.{AreGrounds, Writes, profile_path}
use Rattle.nextest_documents.specs.Shown.{Path}
use Rattle.nextest_tables.specs.Written.{Name}
use Rattle.nextest_tree.specs.Node.{Node}
use Rattle.rinqebo_request.specs.declared.files.layers.Layer.{Layer}
use Rattle.rinqebo_report.specs.declared.origin.Origin.{Origin}
use Rattle.rinqebo_report.specs.declared.origin.Origin.TheVariants as kinds
use Rattle.rinqebo_report.specs.declared.origin.Part.TheVariants as parts
use Rattle.rinqebo_keys.specs.Keys.{is_report}
use Rattle.rinqebo_origins.specs.Origins.{IsWrittenAt, key_steps}
use Rattle.rinqebo_origins.specs.Trees.{trees_of}

-- the keys that lead to a setting, by its table, if it has one, and its key in that
abbrev pub key_path : Option (List ℕ) → List ℕ → Path
key_path None name = name ∷ []
key_path (Some table) name = table ∷ name ∷ []

-- whether rules alone write a key: a profile has no such key
abbrev pub is_rule_key : Option (List ℕ) → List ℕ → Bool
is_rule_key None name =
    if bytes_eq name (codes "priority") then true
    else if bytes_eq name (codes "test-group") then true
    else bytes_eq name (codes "run-wrapper")
is_rule_key (Some table) name = false

-- where a profile says whether a report is written
abbrev pub report_path : Path
report_path = codes "junit" ∷ codes "path" ∷ []

-- no profile of a chain writes something at a path
abbrev pub IsUnwritten : List Node → List Name → Path → Type 0
IsUnwritten trees chain path = AllByRecursion (λ name. ¬ Writes trees path name) chain

-- An origin is that of what a profile writes for a setting in the layer at a position: the lowest
-- one is the default table, and in any other one it has the place of the setting.
abbrev pub IsLayerOrigin : List Layer → Name → Option (List ℕ) → List ℕ → ℕ → Origin
    → Type 0
IsLayerOrigin layers profile table name zero origin = origin ≡ kinds.DefaultTable
IsLayerOrigin layers profile table name (suc n) (kinds.Written written) =
    IsWrittenAt layers (suc n) profile parts.Fields (key_steps table name) written
IsLayerOrigin layers profile table name (suc n) origin = ⊥

-- Origins are those of what a chain writes for a setting: the nearest profile of it that writes the
-- setting, and exactly the layers that show leaves of that, the highest first.
pub record AreWrittenOrigins (layers : List Layer) (chain : List Name) (table : Option (List ℕ))
    (name : List ℕ) (origins : List Origin) : Type 0 where
  pub nearer : List Name
  pub profile : Name
  pub farther : List Name
  pub splits : chain ≡ nearer ++ profile ∷ farther
  pub nearest : IsUnwritten (trees_of layers) nearer (key_path table name)
  pub writes : Writes (trees_of layers) (key_path table name) profile
  pub positions : List ℕ
  pub are_grounds : AreGrounds (trees_of layers)
      (profile_path profile ++ key_path table name) positions
  pub told : AllZip (IsLayerOrigin layers profile table name) positions origins

-- a setting is one of a report, and no profile of a chain has one written
abbrev pub HasNoReport : List Node → List Name → Option (List ℕ) → Type 0
HasNoReport trees chain table = (is_report table ≡ true) × IsUnwritten trees chain report_path

-- Origins are those of what a chain writes for a setting, or it writes only a table without leaves,
-- and the value is built in.
abbrev pub AreOriginsWritten : List Layer → List Name → Option (List ℕ) → List ℕ
    → Vec Origin Global → Type 0
AreOriginsWritten layers chain table name origins =
    (AreWrittenOrigins layers chain table name origins.items × (origins.items ≢ []))
    ⊎ (AreWrittenOrigins layers chain table name [] × (origins.items ≡ kinds.BuiltIn ∷ []))

-- Nothing that is written counts for a setting: rules alone write it, or it is one of a report and
-- no profile of the chain has one written, or no profile writes the setting, or only a table
-- without leaves.
pub data IsBuiltIn (layers : List Layer) (chain : List Name) (table : Option (List ℕ))
    (name : List ℕ) : Type 0 where
  no_key : is_rule_key table name ≡ true → IsBuiltIn layers chain table name
  no_report : HasNoReport (trees_of layers) chain table → IsBuiltIn layers chain table name
  no_profile : IsUnwritten (trees_of layers) chain (key_path table name)
      → IsBuiltIn layers chain table name
  no_leaf : AreWrittenOrigins layers chain table name [] → IsBuiltIn layers chain table name

-- Where the value of a chain of profiles comes from for a setting: from what is written, where that
-- counts, and else it is built in.
pub data AreProfileOrigins (layers : List Layer) (chain : List Name) (table : Option (List ℕ))
    (name : List ℕ) (origins : List Origin) : Type 0 where
  built_in : IsBuiltIn layers chain table name → origins ≡ kinds.BuiltIn ∷ []
      → AreProfileOrigins layers chain table name origins
  written : is_rule_key table name ≡ false → ¬ HasNoReport (trees_of layers) chain table
      → AreWrittenOrigins layers chain table name origins → origins ≢ []
      → AreProfileOrigins layers chain table name origins

-- What is written for a setting of the report has no effect where no profile of the chain has a
-- report written: origins are those of what is written, or built in. Else there are none.
pub data AreIdleOrigins (layers : List Layer) (chain : List Name) (table : Option (List ℕ))
    (name : List ℕ) (origins : Vec Origin Global) : Type 0 where
  counted : ¬ HasNoReport (trees_of layers) chain table → origins.items ≡ []
      → AreIdleOrigins layers chain table name origins
  unwritten : IsUnwritten (trees_of layers) chain (key_path table name) → origins.items ≡ []
      → AreIdleOrigins layers chain table name origins
  idle : HasNoReport (trees_of layers) chain table
      → AreOriginsWritten layers chain table name origins
      → AreIdleOrigins layers chain table name origins
