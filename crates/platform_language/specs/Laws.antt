-- What holds of the values of all specs.
use Rattle.std.specs.Prelude.{◌≡◌, ◌⊎◌, ◌↔◌, ◌||◌, Bool, true, false, List, map, Option, None, Some, IsSome, Contains, IsPermutation}
use Rattle.platform_language.specs.Platforms.Platforms.{Line, PlatformData}
use Rattle.platform_language.specs.Expressions.{Feature, Expression, Asks, Every, Some_of, Negated, Expressions, no_parts, part, parts_of, Spec, OfTriple, OfExpression}
use Rattle.platform_language.specs.Values.{least, greatest, has, value, spec_value}

-- whether a value is at most another: false is at most unknown, and unknown at most true
abbrev pub at_most : Option Bool → Option Bool → Bool
at_most (Some false) right = true
at_most None (Some false) = false
at_most None _ = true
at_most (Some true) (Some true) = true
at_most (Some true) _ = false

-- A value is the least of some: it is at most each, and one of them. True is the least of none.
pub record IsLeast (values : List (Option Bool)) (least : Option Bool) : Type 0 where
  pub below : (value : Option Bool) → Contains values value → at_most least value ≡ true
  pub among : (least ≡ Some true) ⊎ Contains values least

-- A value is the greatest of some: each is at most it, and it is one of them. False is the greatest
-- of none.
pub record IsGreatest (values : List (Option Bool)) (greatest : Option Bool) : Type 0 where
  pub above : (value : Option Bool) → Contains values value → at_most value greatest ≡ true
  pub among : (greatest ≡ Some false) ⊎ Contains values greatest

-- What `all` and `any` make of values is the least and the greatest of them.
abbrev pub AllIsLeast : Type 0
AllIsLeast = (values : List (Option Bool)) → IsLeast values (least values)

abbrev pub AnyIsGreatest : Type 0
AnyIsGreatest = (values : List (Option Bool)) → IsGreatest values (greatest values)

-- A platform has a line exactly if it is among its lines.
abbrev pub LinesAreAmong : Type 0
LinesAreAmong = (platform : PlatformData) (line : Line)
    → (has platform line ≡ true) ↔ Contains platform.lines line

-- whether an expression tests a feature
abbrev mutual
  pub asks_feature : Expression → Bool
  asks_feature (Asks (Feature name)) = true
  asks_feature (Asks _) = false
  asks_feature (Every parts) = some_asks_feature parts
  asks_feature (Some_of parts) = some_asks_feature parts
  asks_feature (Negated e) = asks_feature e

  -- whether some part does
  pub some_asks_feature : Expressions → Bool
  some_asks_feature no_parts = false
  some_asks_feature (part e es) = asks_feature e || some_asks_feature es

-- whether a spec does; a triple tests none
abbrev pub spec_asks_feature : Spec → Bool
spec_asks_feature (OfTriple triple) = false
spec_asks_feature (OfExpression e) = asks_feature e

-- If features are given, or none is named, the value of a spec is known.
abbrev pub ValuesAreKnown : Type 0
ValuesAreKnown = (platform : PlatformData) (spec : Spec)
    → (platform.features_given ≡ true) ⊎ (spec_asks_feature spec ≡ false)
    → IsSome (spec_value platform spec)

-- the platform with its features given
abbrev pub given : PlatformData → PlatformData
given platform = record {
  triple = platform.triple;
  lines = platform.lines;
  features_given = true;
}

-- To give features changes no known value.
abbrev pub FeaturesChangeNothingKnown : Type 0
FeaturesChangeNothingKnown = (platform : PlatformData) (spec : Spec) (known : Bool)
    → spec_value platform spec ≡ Some known → spec_value (given platform) spec ≡ Some known

-- The order of parts does not matter.
abbrev pub OrderIsFree : Type 0
OrderIsFree = (platform : PlatformData) (es fs : List Expression) → IsPermutation es fs
    → (value platform (Every (parts_of es)) ≡ value platform (Every (parts_of fs)))
    × (value platform (Some_of (parts_of es)) ≡ value platform (Some_of (parts_of fs)))

-- What is not all of some expressions is any of their opposites, and the other way round.
abbrev pub OppositesChangePlaces : Type 0
OppositesChangePlaces = (platform : PlatformData) (es : List Expression)
    → (value platform (Negated (Every (parts_of es)))
    ≡ value platform (Some_of (parts_of (map Negated es))))
    × (value platform (Negated (Some_of (parts_of es)))
    ≡ value platform (Every (parts_of (map Negated es))))
