-- Fields of lists that are joined.
use Rattle.std.proofs.Common.{◌≡◌, List, [], ◌∷◌, ◌++◌, Vec, Box, Global, rules, refl, ap}
use Rattle.nextest_shape.specs.declared.shape.Field.{Field}
use Rattle.nextest_shape.specs.declared.shape.Shape.{Shape, Map, the_lemmas}
use Rattle.nextest_shape.specs.declared.shape.TextShape.{TextShape}
use Rattle.nextest_shape.specs.Form.{a_map, a_field, and_fields}
use Rattle.nextest_shape.specs.View.{text_view, shape_view, fields_view}

pub fields_view-append : (xs ys : List (Field Shape))
    → fields_view (xs ++ ys) ≡ and_fields (fields_view xs) (fields_view ys)
fields_view-append [] ys = refl
fields_view-append (x ∷ xs) ys =
    ap (a_field x.key x.is_required (shape_view x.shape)) (fields_view-append xs ys)

-- the form of a map
pub shape_view-Map : (names : TextShape) (fields : Vec (Field Shape) Global) (values : Box Shape Global)
    → shape_view (Map names fields values)
    ≡ a_map (text_view names) (fields_view fields.items) (shape_view values.value)
shape_view-Map names fields values = search (rules, the_lemmas)
