-- The parts, classes and groups with which a row begins are determined by the text.
use Rattle.std.proofs.Common.{◌≡◌, ℕ, ◌+◌, ◌⊎◌, ◌↔◌, Bool, true, false, ◌&&◌, List, [], ◌∷◌, ◌++◌, Option, Some, None, length, refl, sym, ap, ◌∙◌, subst, ⊎_elim, inl, inr, arith, true≢false}
use Rattle.std.specs.Prelude.{MatchOption}
use Rattle.std.proofs.lemmas.Bool.{and_parts}
use Rattle.regex_hir.specs.Meaning.{meaning}
use Rattle.regex_hir.specs.declared.hir.Hir.{Hir}
use Rattle.filter_engine.specs.GlobClasses.{GlobClass, WritesClass, ClassTakes, WritesOneClass, NoClass}
use Rattle.filter_engine.specs.declared.glob.fault.RowFault.{RowFault}
use Rattle.filter_engine.specs.declared.glob.fault.RowFault.TheVariants.{Memory}
use Rattle.filter_engine.specs.Globs.{ends_row, behind, Row, end, part, class, group, Branches, only, also, WritesPart, WritesRow, WritesBranches, PartTakes, RowTakes, SomeTakes, is_empty, are_empty}
use Rattle.filter_engine.specs.GlobReading.{IsSkipped, IsMatched, ReadsPiece, WritesOneGroup, GroupPattern, ReadsGroup, NoRow, NoGroup, is_nil}
use Rattle.filter_engine.specs.Patterns.{MatchesKind, Means}
use Rattle.filter_engine.specs.declared.glob.place.Place.{Place}
use Rattle.filter_engine.specs.declared.glob.place.Place.TheVariants as place
use Rattle.filter_engine.specs.declared.glob.part.GlobPart.{GlobPart}
use Rattle.filter_engine.proofs.GlobParts.{apart, same_part, no_part_at_class, no_part_at_group, part_shorter}
use Rattle.filter_engine.proofs.GlobPatterns.{kind_same, cat_means}

-- A Boolean beside a constant.
pub and_false : (a : Bool) → (a && false) ≡ false
and_false true = refl
and_false false = refl

pub and_true : (a : Bool) → (a && true) ≡ a
and_true true = refl
and_true false = refl

-- Behind patterns with one more there are some.
pub no_pattern : (hirs : List Hir) (hir : Hir) → is_nil (hirs ++ hir ∷ []) ≡ false
no_pattern [] hir = refl
no_pattern (h ∷ hirs) hir = refl

-- Of branches that are all empty none takes anything.
empty_takes_none : (branches : Branches) (bytes : List ℕ) → are_empty branches ≡ true → SomeTakes branches bytes → ⊥
empty_takes_none (only row) bytes none t = true≢false (sym none ∙ t.0)
empty_takes_none (also row branches) bytes none t =
    let both = and_parts (is_empty row) (are_empty branches) none in
    ⊎_elim
    (λ (here : (is_empty row ≡ false) × RowTakes row bytes). true≢false (sym both.0 ∙ here.0))
    (λ (later : SomeTakes branches bytes). empty_takes_none branches bytes both.1 later)
    t

-- A row ends nowhere where a class or a group opens.
pub no_end : (inside : Bool) (text : List ℕ) (b : ℕ) (inner : List ℕ) → text ≡ b ∷ inner
    → (b ≡ 91) ⊎ (b ≡ 123) → ends_row inside text ≡ true → ⊥
no_end true text b inner e f g =
    ⊎_elim
    (λ (h : b ≡ 91). let i : ends_row true (91 ∷ inner) ≡ true =
    subst (λ t. ends_row true t ≡ true) (e ∙ ap (λ c. c ∷ inner) h) g in true≢false (sym i))
    (λ (h : b ≡ 123). let i : ends_row true (123 ∷ inner) ≡ true =
    subst (λ t. ends_row true t ≡ true) (e ∙ ap (λ c. c ∷ inner) h) g in true≢false (sym i))
    f
no_end false text b inner e f g = let i : ends_row false (b ∷ inner) ≡ true =
    subst (λ t. ends_row false t ≡ true) e g in true≢false (sym i)

module _ (inside : Bool) (levels : ℕ) (at : Place) where
  -- What is behind a part.
  pub part_behind : (text mid : List ℕ) (this : GlobPart) → ends_row inside text ≡ false
      → WritesPart inside at text this mid → (row : Row) (left : List ℕ)
      → WritesRow inside levels at text row left
      ↔ ((next : Row) × (row ≡ part this next) × WritesRow inside levels (behind at this) mid next left)
  part_behind text mid this goes_on here end left = (
    λ (w : (text ≡ left) × (ends_row inside text ≡ true)). absurd (true≢false (sym w.1 ∙ goes_on)),
    λ (found : (next : Row) × (end ≡ part this next)
        × WritesRow inside levels (behind at this) mid next left). absurd (let e = found.1 in cc),
  )
  part_behind text mid this goes_on here (part other row) left = (
    λ (w : (ends_row inside text ≡ false)
        × ((m : List ℕ) × WritesPart inside at text other m × WritesRow inside levels (behind at other) m row left)).
        let same = same_part inside at text other this w.1.0 mid w.1.1 here in
        let later = subst (λ p. WritesRow inside levels (behind at p) w.1.0 row left) same.0 w.1.2 in (
          row,
          ap (λ p. part p row) same.0,
          subst (λ m. WritesRow inside levels (behind at this) m row left)
              same.1 later,
        ),
    λ (found : (next : Row) × (part other row ≡ part this next)
        × WritesRow inside levels (behind at this) mid next left).
        subst (λ r. WritesRow inside levels at text r left) (sym found.1) (goes_on, (mid, here, found.2)),
  )
  part_behind text mid this goes_on here (class other row) left = (
    λ (w : (inner : List ℕ) × (m : List ℕ) × (text ≡ 91 ∷ inner) × WritesClass inner other m
        × WritesRow inside levels place.Elsewhere m row left).
        absurd (no_part_at_class inside at text w.0 w.2 this mid here),
    λ (found : (next : Row) × (class other row ≡ part this next)
        × WritesRow inside levels (behind at this) mid next left). absurd (let e = found.1 in cc),
  )
  part_behind text mid this goes_on here (group other row) left = (
    λ (w : (inner : List ℕ) × (m : List ℕ) × (below : ℕ) × (text ≡ 123 ∷ inner) × (levels ≡ below + 1)
        × WritesBranches below inner other m
        × WritesRow inside levels place.Elsewhere m row left).
        absurd (no_part_at_group inside at text w.0 w.3 this mid here),
    λ (found : (next : Row) × (group other row ≡ part this next)
        × WritesRow inside levels (behind at this) mid next left). absurd (let e = found.1 in cc),
  )

  -- What is behind a class.
  pub class_behind : (text inner mid : List ℕ) (this : GlobClass) → text ≡ 91 ∷ inner
      → WritesOneClass inner this mid → (row : Row) (left : List ℕ)
      → WritesRow inside levels at text row left
      ↔ ((next : Row) × (row ≡ class this next) × WritesRow inside levels place.Elsewhere mid next left)
  class_behind text inner mid this e one end left = (
    λ (w : (text ≡ left) × (ends_row inside text ≡ true)). absurd (no_end inside text 91 inner e (inl refl) w.1),
    λ (found : (next : Row) × (end ≡ class this next)
        × WritesRow inside levels place.Elsewhere mid next left). absurd (let e = found.1 in cc),
  )
  class_behind text inner mid this e one (part other row) left = (
    λ (w : (ends_row inside text ≡ false)
        × ((m : List ℕ) × WritesPart inside at text other m × WritesRow inside levels (behind at other) m row left)).
        absurd (no_part_at_class inside at text inner e other w.1.0 w.1.1),
    λ (found : (next : Row) × (part other row ≡ class this next)
        × WritesRow inside levels place.Elsewhere mid next left). absurd (let f = found.1 in cc),
  )
  class_behind text inner mid this e one (class other row) left = (
    λ (w : (i : List ℕ) × (m : List ℕ) × (text ≡ 91 ∷ i) × WritesClass i other m
        × WritesRow inside levels place.Elsewhere m row left).
        let f = w.2 in
        let same_inner : w.0 ≡ inner = cc in
        let same = (one other w.1).0 (subst (λ i. WritesClass i other w.1) same_inner w.3) in
        (row, ap (λ c. class c row) same.0, subst (λ m. WritesRow inside levels place.Elsewhere m row left) same.1 w.4),
    λ (found : (next : Row) × (class other row ≡ class this next)
        × WritesRow inside levels place.Elsewhere mid next left).
        subst (λ r. WritesRow inside levels at text r left) (sym found.1)
        (inner, mid, e, (one this mid).1 (refl, refl), found.2),
  )
  class_behind text inner mid this e one (group other row) left = (
    λ (w : (i : List ℕ) × (m : List ℕ) × (below : ℕ) × (text ≡ 123 ∷ i) × (levels ≡ below + 1)
        × WritesBranches below i other m
        × WritesRow inside levels place.Elsewhere m row left).
        absurd (apart 91 123 inner w.0 text e w.3 (omega arith)),
    λ (found : (next : Row) × (group other row ≡ class this next)
        × WritesRow inside levels place.Elsewhere mid next left). absurd (let f = found.1 in cc),
  )

  -- What is behind a group.
  pub group_behind : (text inner mid : List ℕ) (below : ℕ) (this : Branches) → text ≡ 123 ∷ inner
      → levels ≡ below + 1 → WritesOneGroup below inner this mid
      → (row : Row) (left : List ℕ)
      → WritesRow inside levels at text row left
      ↔ ((next : Row) × (row ≡ group this next) × WritesRow inside levels place.Elsewhere mid next left)
  group_behind text inner mid below this e deep one end left = (
    λ (w : (text ≡ left) × (ends_row inside text ≡ true)). absurd (no_end inside text 123 inner e (inr refl) w.1),
    λ (found : (next : Row) × (end ≡ group this next)
        × WritesRow inside levels place.Elsewhere mid next left). absurd (let f = found.1 in cc),
  )
  group_behind text inner mid below this e deep one (part other row) left = (
    λ (w : (ends_row inside text ≡ false)
        × ((m : List ℕ) × WritesPart inside at text other m × WritesRow inside levels (behind at other) m row left)).
        absurd (no_part_at_group inside at text inner e other w.1.0 w.1.1),
    λ (found : (next : Row) × (part other row ≡ group this next)
        × WritesRow inside levels place.Elsewhere mid next left). absurd (let f = found.1 in cc),
  )
  group_behind text inner mid below this e deep one (class other row) left = (
    λ (w : (i : List ℕ) × (m : List ℕ) × (text ≡ 91 ∷ i) × WritesClass i other m
        × WritesRow inside levels place.Elsewhere m row left).
        absurd (apart 91 123 w.0 inner text w.2 e (omega arith)),
    λ (found : (next : Row) × (class other row ≡ group this next)
        × WritesRow inside levels place.Elsewhere mid next left). absurd (let f = found.1 in cc),
  )
  group_behind text inner mid below this e deep one (group other row) left = (
    λ (w : (i : List ℕ) × (m : List ℕ) × (b : ℕ) × (text ≡ 123 ∷ i) × (levels ≡ b + 1) × WritesBranches b i other m
        × WritesRow inside levels place.Elsewhere m row left).
        let f = w.3 in
        let g = w.4 in
        let same_inner : w.0 ≡ inner = cc in
        let same_level : w.2 ≡ below = omega arith in
        let here = subst (λ b. WritesBranches b w.0 other w.1) same_level w.5 in
        let same = (one other w.1).0 (subst (λ i. WritesBranches below i other w.1) same_inner here) in
        (row, ap (λ b. group b row) same.0, subst (λ m. WritesRow inside levels place.Elsewhere m row left) same.1 w.6),
    λ (found : (next : Row) × (group other row ≡ group this next)
        × WritesRow inside levels place.Elsewhere mid next left).
        subst (λ r. WritesRow inside levels at text r left) (sym found.1)
        (inner, mid, below, e, deep, (one this mid).1 (refl, refl), found.2),
  )

  -- Without a piece, the text writes no row.
  pub no_piece : (text : List ℕ) → ends_row inside text ≡ false
      → ((p : GlobPart) (r : List ℕ) → WritesPart inside at text p r → ⊥)
      → ((inner : List ℕ) → text ≡ 91 ∷ inner → ⊥)
      → ((inner : List ℕ) (below : ℕ) → text ≡ 123 ∷ inner → levels ≡ below + 1 → ⊥)
      → (row : Row) (rest : List ℕ) → WritesRow inside levels at text row rest → ⊥
  no_piece text goes_on none no_class no_group end rest w = true≢false (sym w.1 ∙ goes_on)
  no_piece text goes_on none no_class no_group (part p row) rest w = none p w.1.0 w.1.1
  no_piece text goes_on none no_class no_group (class c row) rest w = no_class w.0 w.2
  no_piece text goes_on none no_class no_group (group b row) rest w = no_group w.0 w.2 w.3 w.4

  -- Where nothing is left and the row goes on, the text writes no row.
  pub no_text_left : (text : List ℕ) → length text ≡ 0 → ends_row inside text ≡ false
      → (row : Row) (rest : List ℕ) → WritesRow inside levels at text row rest → ⊥
  no_text_left text none goes_on =
      no_piece text goes_on (λ p r w. omega (arith, part_shorter inside at text p r w))
      (λ inner e. omega (arith, ap length e))
      (λ inner below e deep. omega (arith, ap length e))

  -- Where no class is behind a bracket, the text writes no row.
  pub no_class_row : (text inner : List ℕ) → text ≡ 91 ∷ inner
      → ((c : GlobClass) (r : List ℕ) → WritesClass inner c r → ⊥)
      → (row : Row) (rest : List ℕ) → WritesRow inside levels at text row rest → ⊥
  no_class_row text inner e none end rest w = no_end inside text 91 inner e (inl refl) w.1
  no_class_row text inner e none (part p row) rest w = no_part_at_class inside at text inner e p w.1.0 w.1.1
  no_class_row text inner e none (class c row) rest (i, mid, f, here, more) =
      let same : i ≡ inner = cc in none c mid (subst (λ i. WritesClass i c mid) same here)
  no_class_row text inner e none (group b row) rest (i, mid, below, f, deep, here, more) =
      apart 91 123 inner i text e f (omega arith)

  -- Where no branches are behind a brace, the text writes no row.
  pub no_group_row : (text inner : List ℕ) (below : ℕ) → text ≡ 123 ∷ inner → levels ≡ below + 1
      → ((b : Branches) (r : List ℕ) → WritesBranches below inner b r → ⊥)
      → (row : Row) (rest : List ℕ) → WritesRow inside levels at text row rest → ⊥
  no_group_row text inner below e deep none end rest w = no_end inside text 123 inner e (inr refl) w.1
  no_group_row text inner below e deep none (part p row) rest w = no_part_at_group inside at text inner e p w.1.0 w.1.1
  no_group_row text inner below e deep none (class c row) rest (i, mid, f, here, more) =
      apart 91 123 i inner text f e (omega arith)
  no_group_row text inner below e deep none (group b row) rest (i, mid, l, f, g, here, more) =
      let same : i ≡ inner = cc in
      let level : l ≡ below = omega arith in
      none b mid (subst (λ i. WritesBranches below i b mid) same (subst (λ l. WritesBranches l i b mid) level here))

  -- A part is read.
  pub part_read : (text mid : List ℕ) (this : GlobPart) (hir : Hir) → ends_row inside text ≡ false
      → WritesPart inside at text this mid
      → Means this (meaning hir) → ReadsPiece inside levels at text (Some hir) (behind at this) mid
  part_read text mid this hir goes_on here means = (
    λ row. part this row,
    part_behind text mid this goes_on here,
    λ row. (refl, λ tail more. cat_means (PartTakes this) (RowTakes row) (meaning hir) tail means more),
  )

  -- A class is read.
  pub class_read : (text inner mid : List ℕ) (this : GlobClass) (hir : Hir) → text ≡ 91 ∷ inner
      → WritesOneClass inner this mid
      → MatchesKind (ClassTakes this) (meaning hir) → ReadsPiece inside levels at text (Some hir) place.Elsewhere mid
  class_read text inner mid this hir e one means = (
    λ row. class this row,
    class_behind text inner mid this e one,
    λ row. (refl, λ tail more. cat_means (ClassTakes this) (RowTakes row) (meaning hir) tail means more),
  )

  -- A group is read, of which some branch takes something or none does.
  group_piece : (this : Branches) (pattern : Option Hir) → GroupPattern this pattern
      → MatchOption pattern (IsSkipped (λ row. group this row)) (λ hir. IsMatched (λ row. group this row) (meaning hir))
  group_piece this None none = λ row. (
    ap (λ b. b && is_empty row) none,
    λ bytes. (
      λ (t : (front : List ℕ) × (rest : List ℕ) × (bytes ≡ front ++ rest)
          × (SomeTakes this front ⊎ ((are_empty this ≡ true) × (front ≡ []))) × RowTakes row rest).
          ⊎_elim
          (λ (some : SomeTakes this t.0). absurd (empty_takes_none this t.0 none some))
          (λ (nothing : (are_empty this ≡ true) × (t.0 ≡ [])). subst (RowTakes row)
          (sym (t.2 ∙ ap (λ f. f ++ t.1) nothing.1)) t.4)
          t.3,
      λ (t : RowTakes row bytes). ([], bytes, refl, inr (none, refl), t),
    ),
  )
  group_piece this (Some hir) (full, means) = λ row. (
    ap (λ b. b && is_empty row) full,
    λ tail more.
        cat_means (λ front. SomeTakes this front ⊎ ((are_empty this ≡ true) × (front ≡ []))) (RowTakes row)
        (meaning hir) tail
        (kind_same (SomeTakes this) (λ front. SomeTakes this front ⊎ ((are_empty this ≡ true) × (front ≡ [])))
        (meaning hir)
        (λ front. (
          λ some. inl some,
          λ (t : SomeTakes this front ⊎ ((are_empty this ≡ true) × (front ≡ []))).
              ⊎_elim (λ (some : SomeTakes this front). some)
              (λ (nothing : (are_empty this ≡ true) × (front ≡ [])). absurd (true≢false (sym nothing.0 ∙ full))) t,
        ))
        means)
        more,
  )

  pub group_read : (text inner mid : List ℕ) (below : ℕ) (pattern : Option Hir) → text ≡ 123 ∷ inner
      → levels ≡ below + 1
      → ReadsGroup below inner pattern mid → ReadsPiece inside levels at text pattern place.Elsewhere mid
  group_read text inner mid below pattern e deep (this, one, means) = (
    λ row. group this row,
    group_behind text inner mid below this e deep one,
    group_piece this pattern means,
  )

  -- Where a class is refused, so is the row that it begins.
  pub refused_class : (text inner : List ℕ) (fault : RowFault) → text ≡ 91 ∷ inner → NoClass inner fault
      → NoRow inside levels at text fault
  refused_class text inner fault e none =
      ⊎_elim
      (λ (memory : fault ≡ Memory). inl memory)
      (λ (none : (c : GlobClass) (r : List ℕ) → WritesClass inner c r → ⊥). inr (no_class_row text inner e none))
      none

  -- Where a group is refused, so is the row that it begins.
  pub refused_group : (text inner : List ℕ) (below : ℕ) (fault : RowFault) → text ≡ 123 ∷ inner
      → levels ≡ below + 1 → NoGroup below inner fault
      → NoRow inside levels at text fault
  refused_group text inner below fault e deep none =
      ⊎_elim
      (λ (memory : fault ≡ Memory). inl memory)
      (λ (none : (b : Branches) (r : List ℕ) → WritesBranches below inner b r → ⊥). inr
      (no_group_row text inner below e deep none))
      none
