-- The values of specs. False, unknown and true are in this order.
use Rattle.std.specs.Prelude.{ℕ, Bool, true, false, not, ◌&&◌, List, [], ◌∷◌, Option, None, Some, option_map, codes, bytes_eq, if◌then◌else◌}
use Rattle.std.specs.List.{list_any}
use Rattle.platform_language.specs.Platforms.Platforms.{Line, PlatformData}
use Rattle.platform_language.specs.Expressions.{Leaf, Has, Feature, Nowhere, Expression, Asks, Every, Some_of, Negated, Expressions, no_parts, part, Spec, OfTriple, OfExpression}

-- the lesser of two values
abbrev pub lesser : Option Bool → Option Bool → Option Bool
lesser (Some false) right = Some false
lesser (Some true) right = right
lesser None (Some false) = Some false
lesser None _ = None

-- the greater of two values
abbrev pub greater : Option Bool → Option Bool → Option Bool
greater (Some true) right = Some true
greater (Some false) right = right
greater None (Some true) = Some true
greater None _ = None

-- the mirror of a value: true and false change places, and unknown stays
abbrev pub mirror : Option Bool → Option Bool
mirror value = option_map not value

-- the least of some values, or true for none
abbrev pub least : List (Option Bool) → Option Bool
least [] = Some true
least (value ∷ values) = lesser value (least values)

-- the greatest of some values, or false for none
abbrev pub greatest : List (Option Bool) → Option Bool
greatest [] = Some false
greatest (value ∷ values) = greater value (greatest values)

-- whether two values of lines are the same
abbrev pub same_value : Option (List ℕ) → Option (List ℕ) → Bool
same_value None None = true
same_value (Some found) (Some wanted) = bytes_eq found wanted
same_value _ _ = false

-- whether two lines are the same
abbrev pub same_line : Line → Line → Bool
same_line found wanted = bytes_eq found.key wanted.key && same_value found.value wanted.value

-- whether a line is among those of a platform
abbrev pub has : PlatformData → Line → Bool
has platform line = list_any (λ found. same_line found line) platform.lines

-- the line of a key with a value
abbrev pub line_of : List ℕ → List ℕ → Line
line_of key value = record { key = key; value = Some value }

-- the line of a key alone
abbrev pub name_of : List ℕ → Line
name_of key = record { key = key; value = None }

-- what a leaf says of a platform
abbrev pub leaf_value : PlatformData → Leaf → Option Bool
leaf_value platform (Has line) = Some (has platform line)
leaf_value platform (Feature name) =
    if platform.features_given then Some (has platform (line_of (codes "target_feature") name))
    else None
leaf_value platform Nowhere = Some false

-- what an expression says of a platform
abbrev mutual
  pub value : PlatformData → Expression → Option Bool
  value platform (Asks leaf) = leaf_value platform leaf
  value platform (Every parts) = least (values platform parts)
  value platform (Some_of parts) = greatest (values platform parts)
  value platform (Negated e) = mirror (value platform e)

  -- what each part says of it
  pub values : PlatformData → Expressions → List (Option Bool)
  values platform no_parts = []
  values platform (part e es) = value platform e ∷ values platform es

-- what a spec says of a platform
abbrev pub spec_value : PlatformData → Spec → Option Bool
spec_value platform (OfTriple triple) = Some (bytes_eq platform.triple triple)
spec_value platform (OfExpression e) = value platform e
