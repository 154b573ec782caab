-- What specs say, without where they lie in memory.
use Rattle.std.specs.Prelude.{ℕ, List, [], ◌∷◌, map, string_bytes}
use Rattle.platform_language.specs.Platforms.Platforms.{Line, line_view}
use Rattle.platform_language.specs.declared.expression.Leaf as leaf
use Rattle.platform_language.specs.declared.expression.Leaf.TheVariants as asked
use Rattle.platform_language.specs.declared.expression.Expression as expression
use Rattle.platform_language.specs.declared.expression.Expression.{fold-Expression}
use Rattle.platform_language.specs.declared.expression.Expression.TheOpen.{Expression-F}
use Rattle.platform_language.specs.declared.expression.TargetSpec as spec
use Rattle.platform_language.specs.declared.expression.TargetSpec.TheVariants as said

-- What is tested of a platform: a line, a feature, or what no platform has.
pub data Leaf : Type 0 where
  Has : Line → Leaf
  Feature : List ℕ → Leaf
  Nowhere : Leaf

mutual
  -- An expression tests one thing, or says that every part holds, that some part holds, or that its
  -- part does not.
  pub data Expression : Type 0 where
    Asks : Leaf → Expression
    Every : Expressions → Expression
    Some_of : Expressions → Expression
    Negated : Expression → Expression

  -- the parts of an expression
  pub data Expressions : Type 0 where
    no_parts : Expressions
    part : Expression → Expressions → Expressions

-- A spec is a triple or an expression.
pub data Spec : Type 0 where
  OfTriple : List ℕ → Spec
  OfExpression : Expression → Spec

-- some expressions as the parts of one
abbrev pub parts_of : List Expression → Expressions
parts_of [] = no_parts
parts_of (e ∷ es) = part e (parts_of es)

-- the leaf that is in memory
abbrev pub leaf_view : leaf.Leaf → Leaf
leaf_view (asked.Has line) = Has (line_view line)
leaf_view (asked.Feature name) = Feature (string_bytes name)
leaf_view asked.Never = Nowhere

-- one level of an expression, with each part already seen
abbrev pub expression_step : Expression-F Expression → Expression
expression_step (Expression-F.Leaf l) = Asks (leaf_view l)
expression_step (Expression-F.All parts) = Every (parts_of parts.items)
expression_step (Expression-F.Any parts) = Some_of (parts_of parts.items)
expression_step (Expression-F.Not inner) = Negated inner.value

-- the expression that is in memory
abbrev pub expression_view : expression.Expression → Expression
expression_view = fold-Expression Expression expression_step

-- the parts that are in memory
abbrev pub parts_view : List expression.Expression → Expressions
parts_view parts = parts_of (map expression_view parts)

-- the spec that is in memory
abbrev pub spec_view : spec.TargetSpec → Spec
spec_view (said.Triple triple) = OfTriple (string_bytes triple)
spec_view (said.Expression e) = OfExpression (expression_view e)
