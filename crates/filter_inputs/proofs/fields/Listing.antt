-- The values of an array, as contracts see them.
use Rattle.std.proofs.Common.{◌≡◌, List, [], ◌∷◌, map, refl, ap}
use Rattle.serde_json.specs.Data.{Data}
use Rattle.serde_json.specs.View.{view, items_of, items_view}
use Rattle.serde_json.specs.declared.value.Value.{Value}
use Rattle.filter_inputs.specs.Fields.Parts.{listed}

listed-items_of : (ds : List Data) → listed (items_of ds) ≡ ds
listed-items_of [] = refl
listed-items_of (d ∷ ds) = ap (λ rest. d ∷ rest) (listed-items_of ds)

-- an array's values as the specifications list them
pub listed_items : (values : List Value) → listed (items_view values) ≡ map view values
listed_items values = listed-items_of (map view values)
