-- How marks spell expressions.
use Rattle.std.specs.Prelude.{◌≡◌, ℕ, zero, suc, ◌⊎◌, List, [], ◌∷◌, Ok}
use Rattle.platform_language.specs.declared.expression.Function.{Function}
use Rattle.platform_language.specs.declared.expression.Function.TheVariants.{All, Any, Not}
use Rattle.platform_language.specs.declared.fault.Place.{Place}
use Rattle.platform_language.specs.Expressions.{Leaf, Expression, Asks, Every, Some_of, Negated, Expressions, no_parts, part}
use Rattle.platform_language.specs.Leaves.{Piece, leaf_alone, leaf_with}
use Rattle.platform_language.specs.Marks.{Mark, OpenMark, CloseMark, CommaMark, EqualsMark, FunctionMark, NameMark, ValueMark, Placed, Writes}
use Rattle.platform_language.specs.Reading.{value_piece}

-- Marks begin with one at some place, and go on with others.
abbrev pub Begins : Mark → Place → List Placed → List Placed → Type 0
Begins mark at marks rest = marks ≡ record { mark = mark; place = at } ∷ rest

-- Marks begin with one, wherever it is, and go on with others.
abbrev pub BeginsSomewhere : Mark → List Placed → List Placed → Type 0
BeginsSomewhere mark marks rest = (at : Place) × Begins mark at marks rest

-- Marks begin with so many commas, and go on with others.
abbrev pub BeginsCommas : ℕ → List Placed → List Placed → Type 0
BeginsCommas zero marks rest = marks ≡ rest
BeginsCommas (suc n) marks rest =
    (more : List Placed) × BeginsSomewhere CommaMark marks more × BeginsCommas n more rest

-- Marks begin with any number of commas, and go on with others.
abbrev pub BeginsAnyCommas : List Placed → List Placed → Type 0
BeginsAnyCommas marks rest = (n : ℕ) × BeginsCommas n marks rest

-- Marks begin with the name of a function and its `(`, and go on with others.
abbrev pub BeginsCall : Function → List Placed → List Placed → Type 0
BeginsCall function marks rest = (more : List Placed)
    × BeginsSomewhere (FunctionMark function) marks more × BeginsSomewhere OpenMark more rest

-- Marks begin with a key that is a leaf alone, or with a key, `=` and a value that are one.
abbrev pub SpellsLeaf : Leaf → List Placed → List Placed → Type 0
SpellsLeaf leaf marks rest =
    ((key : Piece) × Begins (NameMark key.text) key.place marks rest × (leaf_alone key ≡ Ok leaf))
    ⊎ ((key : Piece) × (text : List ℕ) × (at : Place) × (more : List Placed) × (last : List Placed)
    × Begins (NameMark key.text) key.place marks more
    × BeginsSomewhere EqualsMark more last
    × Begins (ValueMark text) at last rest
    × (leaf_with key (value_piece text at) ≡ Ok leaf))

abbrev mutual
  -- Marks begin with an expression in which functions nest at most so deep, and go on with others.
  pub Spells : ℕ → Expression → List Placed → List Placed → Type 0
  Spells depth (Asks leaf) marks rest = SpellsLeaf leaf marks rest
  Spells (suc depth) (Every parts) marks rest = (inside : List Placed) × (last : List Placed)
      × BeginsCall All marks inside × SpellsParts depth parts inside last
      × BeginsSomewhere CloseMark last rest
  Spells (suc depth) (Some_of parts) marks rest = (inside : List Placed) × (last : List Placed)
      × BeginsCall Any marks inside × SpellsParts depth parts inside last
      × BeginsSomewhere CloseMark last rest
  Spells (suc depth) (Negated e) marks rest =
      (inside : List Placed) × (more : List Placed) × (last : List Placed)
      × BeginsCall Not marks inside × Spells depth e inside more × BeginsAnyCommas more last
      × BeginsSomewhere CloseMark last rest
  Spells zero _ marks rest = ⊥

  -- Marks begin with parts, and go on with others.
  pub SpellsParts : ℕ → Expressions → List Placed → List Placed → Type 0
  SpellsParts depth no_parts marks rest = marks ≡ rest
  SpellsParts depth (part e es) marks rest =
      (more : List Placed) × Spells depth e marks more × SpellsFurther depth es more rest

  -- Behind a part, marks begin with further ones, and go on with others. In front of each is a
  -- comma or more, and behind the last any number.
  pub SpellsFurther : ℕ → Expressions → List Placed → List Placed → Type 0
  SpellsFurther depth no_parts marks rest = BeginsAnyCommas marks rest
  SpellsFurther depth (part e es) marks rest =
      (more : List Placed) × (inside : List Placed) × (last : List Placed)
      × BeginsSomewhere CommaMark marks more × BeginsAnyCommas more inside
      × Spells depth e inside last × SpellsFurther depth es last rest

-- Marks spell an expression: it is first, with any number of commas behind it, and its
-- functions nest at most 128 deep.
abbrev pub SpellsBody : Expression → List Placed → Type 0
SpellsBody e marks = (more : List Placed) × Spells 128 e marks more × BeginsAnyCommas more []

-- A body writes an expression: it writes marks that spell it.
abbrev pub IsBody : List ℕ → Expression → Type 0
IsBody body e = (marks : List Placed) × Writes body marks × SpellsBody e marks
