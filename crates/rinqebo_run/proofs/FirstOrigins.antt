-- The first of some origins, and the others.
use Rattle.std.proofs.Common.{◌≡◌, ◌∙◌, ℕ, List, [], ◌∷◌, Option, refl, sym, subst}
use Rattle.nextest_tables.specs.Written.{Name}
use Rattle.rinqebo_request.specs.declared.files.layers.Layer.{Layer}
use Rattle.rinqebo_report.specs.declared.origin.Origin.{Origin}
use Rattle.rinqebo_origins.specs.ProfileOrigins.{AreProfileOrigins, built_in, written}
use Rattle.rinqebo_results.specs.Reasons.{or_built_in}

-- the origins of a value of a chain are some
some_origins : (layers : List Layer) (chain : List Name) (table : Option (List ℕ)) (name : List ℕ) (origins : List Origin)
    → AreProfileOrigins layers chain table name origins → or_built_in origins ≡ origins
some_origins layers chain table name [] (built_in none is) = sym is
some_origins layers chain table name [] (written no_rule report are some) = absurd (some refl)
some_origins layers chain table name (origin ∷ others) is = refl

-- the first of them and the others are the origins of the value
pub first_of_profile : (layers : List Layer) (chain : List Name) (table : Option (List ℕ)) (name : List ℕ)
    (origins all : List Origin) → AreProfileOrigins layers chain table name origins → all ≡ or_built_in origins
    → AreProfileOrigins layers chain table name all
first_of_profile layers chain table name origins all is same =
    subst (AreProfileOrigins layers chain table name) (sym (same ∙ some_origins layers chain table name origins is)) is
