-- The globs that are found in texts are those that they write.
use Rattle.std.proofs.Common.{◌≡◌, ℕ, zero, suc, ◌+◌, ◌<◌, ◌≤◌, ◌↔◌, Bool, true, false, ◌==◌, eqb-true, List, [], ◌∷◌, Some, None, length, refl, sym, ap, subst, inr, arith}
use Rattle.std.specs.Prelude.{if◌then◌else◌}
use Rattle.std.proofs.lemmas.Bool.{eqb-false}
use Rattle.filter_engine.specs.GlobClasses.{GlobClass, WritesClass}
use Rattle.filter_engine.specs.Globs.{Row, end, part, class, group, Branches, only, also, ends_row, behind, WritesPart, WritesRow, WritesBranches, WritesGlob}
use Rattle.filter_engine.specs.GlobReading.{WritesOneRow}
use Rattle.filter_engine.specs.GlobTexts.{Leading, find_behind, found_with, class_in, part_in, piece_in, row_in, branch_in, branches_in, nested_branches_in, whole_row, glob_in}
use Rattle.filter_engine.specs.declared.glob.place.Place.{Place}
use Rattle.filter_engine.specs.declared.glob.place.Place.TheVariants.{Start, Elsewhere}
use Rattle.filter_engine.specs.declared.glob.part.GlobPart.{GlobPart}
use Rattle.filter_engine.proofs.GlobParts.{heads, apart, no_part_at_group, part_shorter}
use Rattle.filter_engine.proofs.GlobPieces.{no_end, part_behind, class_behind, group_behind, no_piece, no_text_left, no_class_row}
use Rattle.filter_engine.proofs.GlobRows.{row_ends, branch_behind, last_behind, first_row}
use Rattle.filter_engine.proofs.Tells.{Tells, tells_none, tells_one, one_told, told, never_told, tells_same, tells_behind}
use Rattle.filter_engine.proofs.ClassTexts.{class_tells, class_shorter}
use Rattle.filter_engine.proofs.PartTexts.{part_tells}

mutual
  -- A row takes no byte or some.
  row_shorter : (row : Row) (inside : Bool) (levels : ℕ) (place : Place) (text rest : List ℕ)
      → WritesRow inside levels place text row rest
      → length rest ≤ length text
  row_shorter end inside levels place text rest w = omega (arith, ap length w.0)
  row_shorter (part this row) inside levels place text rest (goes_on, (mid, here, more)) =
      omega (
        arith,
        part_shorter inside place text this mid here,
        row_shorter row inside levels
            (behind place this) mid rest more,
      )
  row_shorter (class this row) inside levels place text rest (inner, mid, e, here, more) =
      omega (
        arith,
        ap length e,
        class_shorter inner this mid here,
        row_shorter row inside levels Elsewhere
            mid rest more,
      )
  row_shorter (group branches row) inside levels place text rest (inner, mid, below, e, deep, here, more) =
      omega (
        arith,
        ap length e,
        branches_shorter branches below inner mid here,
        row_shorter row inside levels
            Elsewhere mid rest more,
      )

  -- Branches take a byte at least.
  branches_shorter : (branches : Branches) (levels : ℕ) (text rest : List ℕ)
      → WritesBranches levels text branches rest → length rest < length text
  branches_shorter (only row) levels text rest w = omega (arith, row_shorter row true levels Start text (125 ∷ rest) w)
  branches_shorter (also row branches) levels text rest (next, here, more) =
      omega (
        arith,
        row_shorter row true levels Start text (44 ∷ next) here,
        branches_shorter branches levels
            next rest more,
      )

-- The branches behind an opening brace at which so many levels may still open.
abbrev WritesGroup : ℕ → List ℕ → Branches → List ℕ → Type 0
WritesGroup levels text branches rest = (below : ℕ) × (levels ≡ below + 1) × WritesBranches below text branches rest

module _ (groups : List ℕ → Leading Branches) (inside : Bool) (levels : ℕ)
    (groups_tell : (text : List ℕ) → Tells (groups text) (WritesGroup levels text)) where
  -- The rows that a text shorter than this writes are determined.
  abbrev RowsTell : (Place → List ℕ → Leading Row) → ℕ → Type 0
  RowsTell rows size = (place : Place) (text : List ℕ) → length text < size
      → Tells (rows place text) (WritesRow inside levels place text)

  class_row : (rows : Place → List ℕ → Leading Row) (place : Place) (text inner : List ℕ) → text ≡ 91 ∷ inner
      → RowsTell rows (length text)
      → (found : Leading GlobClass) → Tells found (WritesClass inner)
      → Tells (find_behind (λ this rest. found_with (class this) (rows Elsewhere rest)) found)
      (WritesRow inside levels place text)
  class_row rows place text inner e tell None tells =
      tells_none (WritesRow inside levels place text)
      (no_class_row inside levels place text inner e (never_told (WritesClass inner) tells))
  class_row rows place text inner e tell (Some (this, mid)) tells =
      let here = told (WritesClass inner) this mid tells in
      tells_behind {A = Row} {B = Row} (class this) (WritesRow inside levels place text)
      (WritesRow inside levels Elsewhere mid) (rows Elsewhere mid)
      (class_behind inside levels place text inner mid this e (one_told (WritesClass inner) this mid tells))
      (tell Elsewhere mid (omega (arith, ap length e, class_shorter inner this mid here)))

  -- Where no group is behind a brace, the text writes no row.
  no_group_here : (place : Place) (text inner : List ℕ) → text ≡ 123 ∷ inner → Tells None (WritesGroup levels inner)
      → (row : Row) (rest : List ℕ) → WritesRow inside levels place text row rest → ⊥
  no_group_here place text inner e tells end rest w = no_end inside text 123 inner e (inr refl) w.1
  no_group_here place text inner e tells (part p row) rest w = no_part_at_group inside place text inner e p w.1.0 w.1.1
  no_group_here place text inner e tells (class c row) rest (i, mid, f, here, more) =
      apart 91 123 i inner text f e (omega arith)
  no_group_here place text inner e tells (group b row) rest (i, mid, below, f, deep, here, more) =
      let same : i ≡ inner = cc in
      never_told (WritesGroup levels inner) tells b mid
      (below, deep, subst (λ i. WritesBranches below i b mid) same here)

  group_row : (rows : Place → List ℕ → Leading Row) (place : Place) (text inner : List ℕ) → text ≡ 123 ∷ inner
      → RowsTell rows (length text)
      → (found : Leading Branches) → Tells found (WritesGroup levels inner)
      → Tells (find_behind (λ this rest. found_with (group this) (rows Elsewhere rest)) found)
      (WritesRow inside levels place text)
  group_row rows place text inner e tell None tells =
      tells_none (WritesRow inside levels place text) (no_group_here place text inner e tells)
  group_row rows place text inner e tell (Some (this, mid)) tells =
      let here = told (WritesGroup levels inner) this mid tells in
      let one = one_told (WritesGroup levels inner) this mid tells in
      tells_behind {A = Row} {B = Row} (group this) (WritesRow inside levels place text)
      (WritesRow inside levels Elsewhere mid) (rows Elsewhere mid)
      (group_behind inside levels place text inner mid here.0 this e here.1
      (λ other left. (
        λ w. (one other left).0 (here.0, here.1, w),
        λ (same : (other ≡ this) × (left ≡ mid)). subst (λ b. WritesBranches here.0 inner b left) (sym same.0)
            (subst (WritesBranches here.0 inner this) (sym same.1) here.2),
      )))
      (tell Elsewhere mid (omega (arith, ap length e, branches_shorter this here.0 inner mid here.2)))

  part_row : (rows : Place → List ℕ → Leading Row) (place : Place) (text : List ℕ)
      → ends_row inside text ≡ false → ((inner : List ℕ) → text ≡ 91 ∷ inner → ⊥)
      → ((inner : List ℕ) → text ≡ 123 ∷ inner → ⊥) → RowsTell rows (length text) → (found : Leading GlobPart)
      → Tells found (WritesPart inside place text)
      → Tells (find_behind (λ this rest. found_with (part this) (rows (behind place this) rest)) found)
      (WritesRow inside levels place text)
  part_row rows place text goes_on no_class no_group tell None tells =
      tells_none (WritesRow inside levels place text)
      (no_piece inside levels place text goes_on (never_told (WritesPart inside place text) tells) no_class
      (λ inner below e deep. no_group inner e))
  part_row rows place text goes_on no_class no_group tell (Some (this, mid)) tells =
      let here = told (WritesPart inside place text) this mid tells in
      tells_behind {A = Row} {B = Row} (part this) (WritesRow inside levels place text)
      (WritesRow inside levels (behind place this) mid) (rows (behind place this) mid)
      (part_behind inside levels place text mid this goes_on here)
      (tell (behind place this) mid (part_shorter inside place text this mid here))

  group_by : (rows : Place → List ℕ → Leading Row) (place : Place) (byte : ℕ) (text : List ℕ)
      → ends_row inside (byte ∷ text) ≡ false → (byte ≡ 91 → ⊥)
      → RowsTell rows (length text + 1) → (brace : Bool) → (byte == 123) ≡ brace
      → Tells (if brace then find_behind (λ this rest. found_with (group this) (rows Elsewhere rest)) (groups text)
      else find_behind (λ this rest. found_with (part this) (rows (behind place this) rest))
      (part_in inside place (byte ∷ text)))
      (WritesRow inside levels place (byte ∷ text))
  group_by rows place byte text goes_on no_class tell true is =
      group_row rows place (byte ∷ text) text (ap (λ b. b ∷ text) (eqb-true byte 123 is))
      (λ at t shorter. tell at t (omega arith)) (groups text) (groups_tell text)
  group_by rows place byte text goes_on no_class tell false is =
      part_row rows place (byte ∷ text) goes_on
      (λ inner e. no_class (heads (byte ∷ text) byte 91 text inner refl e).0)
      (λ inner e. eqb-false byte 123 is (heads (byte ∷ text) byte 123 text inner refl e).0)
      (λ at t shorter. tell at t (omega arith))
      (part_in inside place (byte ∷ text)) (part_tells inside place (byte ∷ text))

  piece_by : (rows : Place → List ℕ → Leading Row) (place : Place) (byte : ℕ) (text : List ℕ)
      → ends_row inside (byte ∷ text) ≡ false
      → RowsTell rows (length text + 1) → (bracket : Bool) → (byte == 91) ≡ bracket
      → Tells (if bracket then find_behind (λ this rest. found_with (class this) (rows Elsewhere rest)) (class_in text)
      else if byte == 123 then find_behind (λ this rest. found_with (group this) (rows Elsewhere rest)) (groups text)
      else find_behind (λ this rest. found_with (part this) (rows (behind place this) rest))
      (part_in inside place (byte ∷ text)))
      (WritesRow inside levels place (byte ∷ text))
  piece_by rows place byte text goes_on tell true is =
      class_row rows place (byte ∷ text) text (ap (λ b. b ∷ text) (eqb-true byte 91 is))
      (λ at t shorter. tell at t (omega arith)) (class_in text) (class_tells text)
  piece_by rows place byte text goes_on tell false is =
      group_by rows place byte text goes_on (eqb-false byte 91 is) tell (byte == 123) refl

  piece_tells : (rows : Place → List ℕ → Leading Row) (place : Place) (text : List ℕ)
      → ends_row inside text ≡ false → RowsTell rows (length text)
      → Tells (piece_in groups inside rows place text) (WritesRow inside levels place text)
  piece_tells rows place [] goes_on tell =
      tells_none (WritesRow inside levels place []) (no_text_left inside levels place [] refl goes_on)
  piece_tells rows place (byte ∷ text) goes_on tell =
      piece_by rows place byte text goes_on (λ at t shorter. tell at t (omega arith)) (byte == 91) refl

  row_by : (most : ℕ) (place : Place) (text : List ℕ) → length text < most + 1
      → RowsTell (row_in groups inside most) most
      → (ends : Bool) → ends_row inside text ≡ ends
      → Tells (if ends then Some (end, text) else piece_in groups inside (row_in groups inside most) place
      text) (WritesRow inside levels place text)
  row_by most place text room tell true is =
      tells_one (WritesRow inside levels place text) end text (row_ends inside levels text place is)
  row_by most place text room tell false is =
      piece_tells (row_in groups inside most) place text is (λ at t shorter. tell at t (omega arith))

  -- The row that is found is the one that is written.
  row_tells : (most : ℕ) (place : Place) (text : List ℕ) → length text < most
      → Tells (row_in groups inside most place text) (WritesRow inside levels place text)
  row_tells zero place text room = absurd (omega arith)
  row_tells (suc most) place text room =
      row_by most place text (omega arith) (row_tells most) (ends_row inside text) refl

module _ (levels : ℕ) (rows : List ℕ → Leading Row)
    (rows_tell : (text : List ℕ) → Tells (rows text) (WritesRow true levels Start text)) where
  -- The branches that a text shorter than this writes are determined.
  abbrev BranchesTell : (List ℕ → Leading Branches) → ℕ → Type 0
  BranchesTell others size = (text : List ℕ) → length text < size → Tells (others text) (WritesBranches levels text)

  -- What is written where a row ends before another byte.
  no_end_of_branch : (text : List ℕ) (row : Row) (rest : List ℕ) → WritesOneRow true levels text row rest
      → ((next : List ℕ) → rest ≡ 125 ∷ next → ⊥) → ((next : List ℕ) → rest ≡ 44 ∷ next → ⊥)
      → (branches : Branches) (left : List ℕ) → WritesBranches levels text branches left → ⊥
  no_end_of_branch text row rest one no_brace no_comma (only other) left w =
      no_brace left (sym ((one other (125 ∷ left)).0 w).1)
  no_end_of_branch text row rest one no_brace no_comma (also other branches) left (next, here, more) =
      no_comma next (sym ((one other (44 ∷ next)).0 here).1)

  comma_by : (others : List ℕ → Leading Branches) (text : List ℕ) (row : Row) (byte : ℕ) (next : List ℕ)
      → WritesOneRow true levels text row (byte ∷ next)
      → (byte ≡ 125 → ⊥) → BranchesTell others (length next + 1) → (comma : Bool) → (byte == 44) ≡ comma
      → Tells (if comma then found_with (also row) (others next) else None) (WritesBranches levels text)
  comma_by others text row byte next one no_brace tell true is =
      tells_behind {A = Branches} {B = Branches} (also row) (WritesBranches levels text)
      (WritesBranches levels next) (others next)
      (branch_behind levels text next row
      (subst (λ b. WritesOneRow true levels text row (b ∷ next)) (eqb-true byte 44 is) one))
      (tell next (omega arith))
  comma_by others text row byte next one no_brace tell false is =
      tells_none (WritesBranches levels text)
      (no_end_of_branch text row (byte ∷ next) one
      (λ left e. no_brace (heads (byte ∷ next) byte 125 next left refl e).0)
      (λ left e. eqb-false byte 44 is (heads (byte ∷ next) byte 44 next left refl e).0))

  brace_by : (others : List ℕ → Leading Branches) (text : List ℕ) (row : Row) (byte : ℕ) (next : List ℕ)
      → WritesOneRow true levels text row (byte ∷ next)
      → BranchesTell others (length next + 1) → (brace : Bool) → (byte == 125) ≡ brace
      → Tells (if brace then Some (only row, next) else if byte == 44 then found_with (also row) (others next)
      else None) (WritesBranches levels text)
  brace_by others text row byte next one tell true is =
      tells_one (WritesBranches levels text) (only row) next
      (last_behind levels text next row
      (subst (λ b. WritesOneRow true levels text row (b ∷ next)) (eqb-true byte 125 is) one))
  brace_by others text row byte next one tell false is =
      comma_by others text row byte next one (eqb-false byte 125 is) tell (byte == 44) refl

  branch_tells : (others : List ℕ → Leading Branches) (text : List ℕ) → BranchesTell others (length text)
      → (found : Leading Row)
      → Tells found (WritesRow true levels Start text)
      → Tells (find_behind (branch_in others) found) (WritesBranches levels text)
  branch_tells others text tell None tells =
      tells_none (WritesBranches levels text)
      (λ branches left w. let first = first_row levels text branches left w in
      never_told (WritesRow true levels Start text) tells first.0 first.1 first.2)
  branch_tells others text tell (Some (row, [])) tells =
      tells_none (WritesBranches levels text)
      (no_end_of_branch text row [] (one_told (WritesRow true levels Start text) row [] tells) (λ next e. cc)
      (λ next e. cc))
  branch_tells others text tell (Some (row, byte ∷ next)) tells =
      let shorter = row_shorter row true levels Start text (byte ∷ next)
      (told (WritesRow true levels Start text) row (byte ∷ next) tells) in
      brace_by others text row byte next (one_told (WritesRow true levels Start text) row (byte ∷ next) tells)
      (λ t below. tell t (omega arith)) (byte == 125) refl

  -- The branches that are found are those that are written.
  branches_tell : (most : ℕ) (text : List ℕ) → length text < most
      → Tells (branches_in rows most text) (WritesBranches levels text)
  branches_tell zero text room = absurd (omega arith)
  branches_tell (suc most) text room =
      branch_tells (branches_in rows most) text (λ t shorter. branches_tell most t (omega arith)) (rows text)
      (rows_tell text)

-- The group that is found is the one that is written.
group_tells : (levels : ℕ) (text : List ℕ) → Tells (nested_branches_in levels text) (WritesGroup levels text)
unfolding nested_branches_in
group_tells zero text = tells_none (WritesGroup zero text) (λ branches rest w. absurd (omega (arith, w.1)))
group_tells (suc levels) text =
    tells_same (WritesGroup (suc levels) text) (WritesBranches levels text) (nested_branches_in (suc levels) text)
    (λ branches rest. (
      λ (w : (below : ℕ) × (suc levels ≡ below + 1) × WritesBranches below text branches rest).
          let same : w.0 ≡ levels = omega (arith, w.1) in subst (λ b. WritesBranches b text branches rest) same w.2,
      λ w. (levels, omega arith, w),
    ))
    (branches_tell levels (λ rest. row_in (nested_branches_in levels) true (length rest + 1) Start rest)
    (λ rest. row_tells (nested_branches_in levels) true levels (group_tells levels) (length rest + 1) Start
    rest (omega arith))
    (length text + 1) text (omega arith))

whole_is : (Writes : Row → List ℕ → Type 0) (found : Leading Row) → Tells found Writes → (row : Row)
    → Writes row [] ↔ (whole_row found ≡ Some row)
whole_is Writes None tells row = (λ w. absurd (never_told Writes tells row [] w), λ e. absurd (cc))
whole_is Writes (Some (other, [])) tells row = (
  λ w. let same = (one_told Writes other [] tells row []).0 w in ap Some (sym same.0),
  λ e. (one_told Writes other [] tells row []).1 (cc, refl),
)
whole_is Writes (Some (other, byte ∷ rest)) tells row = (
  λ w. let same = (one_told Writes other (byte ∷ rest) tells row []).0 w in let e = same.1 in absurd (cc),
  λ e. absurd (cc),
)

-- The glob that is found is the one that is written.
pub glob_in_is : (text : List ℕ) (row : Row) → WritesGlob text row ↔ (glob_in text ≡ Some row)
unfolding glob_in
glob_in_is text =
    whole_is (WritesRow false 250 Start text) (row_in (nested_branches_in 250) false (length text + 1) Start text)
    (row_tells (nested_branches_in 250) false 250 (group_tells 250) (length text + 1) Start text (omega arith))
