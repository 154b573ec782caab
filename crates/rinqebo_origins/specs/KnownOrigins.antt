-- Origins that are kept, so that each place is found once.
use Rattle.std.specs.Prelude.{◌≡◌, ℕ, List, [], ◌∷◌, Option, None, Some, option_map, string_bytes}
use Rattle.std.specs.List.{AllZip}
use Rattle.rinqebo_origins.specs.TestOrigins.{Basis}
use Rattle.rinqebo_origins.specs.declared.origins.KnownOrigins.{KnownOrigins}
use Rattle.rinqebo_report.specs.declared.origin.Origin.{Origin}
use Rattle.rinqebo_report.specs.declared.origin.Origin.TheVariants as kinds
use Rattle.rinqebo_origins.specs.Origins.{IsOriginOf, key_steps}
use Rattle.rinqebo_origins.specs.ProfileOrigins.{AreProfileOrigins}
use Rattle.rinqebo_origins.specs.RulePlaces.{Place, place_view}

-- where a value at a key comes from: from a rule at a place, or without one from the chain
abbrev pub AreOriginsAt : Basis → Option Place → Option (List ℕ) → List ℕ → List Origin → Type 0
AreOriginsAt basis None table name origins =
    AreProfileOrigins basis.layers basis.chain table name origins
AreOriginsAt basis (Some place) table name origins =
    AllZip (λ place. IsOriginOf basis.layers place (key_steps table name)) (place ∷ []) origins

-- what is kept is right
abbrev pub IsKnown : Basis → KnownOrigins → Type 0
IsKnown basis known =
    AreOriginsAt basis (option_map place_view known.rule)
    (option_map (λ table. table.now) known.key.table) known.key.key.now known.origins.items

-- an origin says the same as another
abbrev pub IsCopyOf : Origin → Origin → Type 0
IsCopyOf (kinds.Written from) (kinds.Written copy) =
    (copy.place ≡ from.place) × (string_bytes copy.profile ≡ string_bytes from.profile)
    × (copy.part ≡ from.part)
IsCopyOf (kinds.Written from) kinds.BuiltIn = ⊥
IsCopyOf (kinds.Written from) kinds.DefaultTable = ⊥
IsCopyOf (kinds.Written from) (kinds.File place) = ⊥
IsCopyOf kinds.BuiltIn copy = copy ≡ kinds.BuiltIn
IsCopyOf kinds.DefaultTable copy = copy ≡ kinds.DefaultTable
IsCopyOf (kinds.File place) copy = copy ≡ kinds.File place
