-- The globs that texts write, found by going over the texts.
use Rattle.std.specs.Prelude.{ℕ, zero, suc, ◌+◌, ◌==◌, nat_lt, nat_le, Bool, true, false, not, ◌||◌, ◌&&◌, if◌then◌else◌, List, [], ◌∷◌, drop, length, Option, None, Some}
use Rattle.filter_engine.specs.GlobClasses.{GlobClass, start_behind}
use Rattle.filter_engine.specs.Globs.{Row, end, part, class, group, Branches, only, also, is_special, ends_row, opens, behind, is_last, folders_part}
use Rattle.filter_engine.specs.declared.glob.class.ClassItem.{ClassItem}
use Rattle.filter_engine.specs.declared.glob.class.ClassItem.TheVariants.{Own, Reach}
use Rattle.filter_engine.specs.declared.glob.place.Place.{Place}
use Rattle.filter_engine.specs.declared.glob.place.Place.TheVariants.{Start, Elsewhere}
use Rattle.filter_engine.specs.declared.glob.part.GlobPart.{GlobPart}
use Rattle.filter_engine.specs.declared.glob.part.GlobPart.TheVariants.{Byte, AnyByte, AnyBytes, Nothing}

-- What is at the front of a text, and the rest of the text, if it does.
abbrev pub Leading : Type 0 → Type 0
Leading A = Option (A × List ℕ)

-- what is found from the rest on of what was found
abbrev pub find_behind : {A B : Type 0} → (A → List ℕ → Leading B) → Leading A → Leading B
find_behind next None = None
find_behind next (Some found) = next found.0 found.1

-- what was found, with a step made on it
abbrev pub found_with : {A B : Type 0} → (A → B) → Leading A → Leading B
found_with step None = None
found_with step (Some found) = Some (step found.0, found.1)

-- ---- classes

-- whether a text begins with a closing bracket
abbrev pub ends_class : List ℕ → Bool
ends_class [] = false
ends_class (byte ∷ text) = byte == 93

-- whether a text begins with the sign of a negated class
abbrev pub begins_negated : List ℕ → Bool
begins_negated [] = false
begins_negated (byte ∷ text) = byte == 33 || byte == 94

-- the byte to which a range with this start reaches
abbrev pub reach_in : ℕ → List ℕ → Leading ClassItem
reach_in start [] = None
reach_in start (byte ∷ text) =
    if nat_lt byte 128 && nat_le start byte then Some (Reach byte, text) else None

-- the item behind a range with this start, if there is no closing bracket
abbrev pub item_in : ℕ → List ℕ → Leading ClassItem
item_in start [] = None
item_in start (byte ∷ text) =
    if byte == 45 && not (ends_class text) then reach_in start text
    else if nat_lt byte 128 then Some (Own byte, text) else None

-- the items up to the closing bracket, so many at most, behind a range with this start
abbrev pub items_in : ℕ → ℕ → List ℕ → Leading (List ClassItem)
items_in zero start text = None
items_in (suc most) start text =
    if ends_class text then Some ([], drop 1 text)
    else find_behind
    (λ item rest. found_with (λ items. item ∷ items) (items_in most (start_behind start item) rest))
    (item_in start text)

-- the class of this sign, behind the sign
abbrev pub class_body_in : Bool → List ℕ → Leading GlobClass
class_body_in negated [] = None
class_body_in negated (first ∷ text) =
    if nat_lt first 128
    then found_with (λ items. record { negated = negated; first = first; items = items })
    (items_in (length text) first text)
    else None

-- the class behind an opening bracket
abbrev pub class_in : List ℕ → Leading GlobClass
class_in text =
    if begins_negated text then class_body_in true (drop 1 text) else class_body_in false text

-- ---- parts

module _ (inside : Bool) (place : Place) where
  -- the part that two stars are before this text
  abbrev pub stars_in : List ℕ → GlobPart × List ℕ
  stars_in [] = if is_last inside place [] then (Nothing, []) else (AnyBytes, 42 ∷ [])
  stars_in (byte ∷ text) =
      if byte == 47 && opens place then (folders_part inside place text, text)
      else if is_last inside place (byte ∷ text) then (Nothing, byte ∷ text)
      else (AnyBytes, 42 ∷ byte ∷ text)

  -- the part that a star begins before this text
  abbrev pub star_in : List ℕ → GlobPart × List ℕ
  star_in [] = (AnyBytes, [])
  star_in (byte ∷ text) = if byte == 42 then stars_in text else (AnyBytes, byte ∷ text)

  -- the byte behind a backslash
  abbrev pub escaped_in : List ℕ → Leading GlobPart
  escaped_in [] = None
  escaped_in (byte ∷ text) = Some (Byte byte, text)

  -- the part at this place
  abbrev pub part_in : List ℕ → Leading GlobPart
  part_in [] = None
  part_in (byte ∷ text) =
      if byte == 63 then Some (AnyByte, text)
      else if byte == 42 then Some (star_in text)
      else if byte == 92 then escaped_in text
      else if is_special byte then None
      else Some (Byte byte, text)

-- ---- rows

module _ (groups : List ℕ → Leading Branches) (inside : Bool) where
  -- the row whose first piece begins a text, by the rows behind it
  abbrev pub piece_in : (Place → List ℕ → Leading Row) → Place → List ℕ → Leading Row
  piece_in rows place [] = None
  piece_in rows place (byte ∷ text) =
      if byte == 91 then
      find_behind (λ this rest. found_with (class this) (rows Elsewhere rest)) (class_in text)
      else if byte == 123 then
      find_behind (λ this rest. found_with (group this) (rows Elsewhere rest)) (groups text)
      else find_behind (λ this rest. found_with (part this) (rows (behind place this) rest))
      (part_in inside place (byte ∷ text))

  -- the row of fewer pieces than this
  abbrev pub row_in : ℕ → Place → List ℕ → Leading Row
  row_in zero place text = None
  row_in (suc most) place text =
      if ends_row inside text then Some (end, text) else piece_in (row_in most) place text

-- the branches from one that was found on, by those behind it
abbrev pub branch_in : (List ℕ → Leading Branches) → Row → List ℕ → Leading Branches
branch_in others row [] = None
branch_in others row (byte ∷ text) =
    if byte == 125 then Some (only row, text)
    else if byte == 44 then found_with (also row) (others text)
    else None

-- the branches, so many at most, by the rows that they are
abbrev pub branches_in : (List ℕ → Leading Row) → ℕ → List ℕ → Leading Branches
branches_in rows zero text = None
branches_in rows (suc most) text = find_behind (branch_in (branches_in rows most)) (rows text)

-- the branches behind an opening brace, where so many levels of groups may still open
unfoldable pub nested_branches_in : ℕ → List ℕ → Leading Branches
nested_branches_in zero text = None
nested_branches_in (suc levels) text =
    branches_in (λ rest. row_in (nested_branches_in levels) true (length rest + 1) Start rest)
    (length text + 1) text

-- the row that is the whole text, if it is
abbrev pub whole_row : Leading Row → Option Row
whole_row None = None
whole_row (Some (row, [])) = Some row
whole_row (Some (row, byte ∷ rest)) = None

-- the row that a text writes of which groups nest at most 250 deep, if there is one
unfoldable pub glob_in : List ℕ → Option Row
glob_in text = whole_row (row_in (nested_branches_in 250) false (length text + 1) Start text)
