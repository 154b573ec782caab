-- What the entries of a text bring of the ids of a table.
use Rattle.std.specs.Prelude.{◌≡◌, ⊤, ℕ, if◌then◌else◌, List, [], ◌∷◌, Option, Some, None, string_bytes}
use Rattle.std.specs.BTreeMap.{get_by}
use Rattle.std.specs.Cmp.Lexicographic.{slice_cmp}
use Rattle.std.specs.Option.{option_or}
use Rattle.std.specs.Ordering.{nat_cmp}
use Rattle.std.specs.Str.{bytes_eq}
use Rattle.nextest_documents.specs.Shown.{Path}
use Rattle.nextest_places.specs.declared.entry.Aim.{Aim}
use Rattle.nextest_places.specs.declared.entry.Aim.TheVariants.{Elsewhere, Brings}
use Rattle.nextest_places.specs.declared.id_lines.Brought.{Brought}
use Rattle.nextest_places.specs.declared.id_lines.Brought.TheVariants.{Nothing, OneId, AllIds}
use Rattle.nextest_places.specs.declared.id_lines.IdLines.{IdLines}
use Rattle.nextest_places.specs.declared.order.PlacedId.{PlacedId}
use Rattle.nextest_places.specs.declared.place.Lines.{Lines}
use Rattle.nextest_places.specs.declared.step.Step.{Step}
use Rattle.nextest_places.specs.declared.step.Step.TheVariants.{Key, Position}
use Rattle.nextest_places.specs.Entries.{Outcome, found, waits}
use Rattle.nextest_places.specs.Marks.{Mark}

-- The steps are by keys.
abbrev pub AreKeys : List Step → Type 0
AreKeys [] = ⊤
AreKeys (Key k ∷ steps) = AreKeys steps
AreKeys (Position i ∷ steps) = ⊥

-- The steps are by the keys of a path.
abbrev pub AreStepsOf : Path → List Step → Type 0
AreStepsOf [] [] = ⊤
AreStepsOf (key ∷ path) (Key k ∷ steps) = (k.now ≡ key) × AreStepsOf path steps
AreStepsOf path steps = ⊥

-- what an expression that brings some ids of a table has to do with one of them
abbrev pub aim_at_id : Brought → List ℕ → Aim
aim_at_id Nothing id = Elsewhere
aim_at_id (OneId brought) id = if bytes_eq id brought.now then Brings else Elsewhere
aim_at_id AllIds id = Brings

-- the lines that are kept of an id
abbrev pub lines_for : IdLines → List ℕ → Option Lines
lines_for lines id = option_or (get_by (λ k. slice_cmp nat_cmp id k.now) lines.own) lines.all

-- an outcome of a path with these marks, by the lines that were found
abbrev pub outcome_by : Option Lines → List Mark → Outcome
outcome_by None ms = waits ms
outcome_by (Some lines) ms = found lines

-- the bytes of an id that has a place
abbrev pub placed_id : PlacedId → List ℕ
placed_id placed = string_bytes placed.id
