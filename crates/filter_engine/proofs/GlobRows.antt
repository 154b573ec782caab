-- The rows and groups that a text writes are determined by the text.
use Rattle.std.proofs.Common.{◌≡◌, ℕ, ◌+◌, ◌<◌, ◌⊎◌, ◌↔◌, Bool, true, false, ◌&&◌, ◌==◌, eqb-true, List, [], ◌∷◌, ◌++◌, Option, Some, None, length, map, drop, get_or, refl, sym, ap, ◌∙◌, subst, ⊎_elim, inl, inr, arith, true≢false, append_assoc, append-nil}
use Rattle.std.proofs.lemmas.Bool.{or_cases}
use Rattle.std.proofs.lemmas.List.{map-append, drop_more, drop-drop, length-drop}
use Rattle.regex_hir.specs.Re.{Re, byte_in}
use Rattle.regex_hir.specs.Meaning.{meaning, cat_all, alt_all}
use Rattle.regex_hir.specs.declared.hir.Hir.{Hir}
use Rattle.filter_engine.specs.GlobClasses.{WritesClass}
use Rattle.filter_engine.specs.declared.glob.fault.RowFault.{RowFault}
use Rattle.filter_engine.specs.declared.glob.fault.RowFault.TheVariants.{Memory}
use Rattle.filter_engine.specs.Globs.{ends_row, behind, Row, end, part, class, group, Branches, only, also, WritesPart, WritesRow, WritesBranches, RowTakes, SomeTakes, is_empty, are_empty}
use Rattle.filter_engine.specs.GlobReading.{ReadsPiece, WritesOneRow, RowPatterns, ReadsRow, GroupPattern, ReadsGroup, AddsPattern, AddsBranch, MatchesAny, NoRow, NoGroup, is_nil}
use Rattle.filter_engine.specs.Patterns.{MatchesKind}
use Rattle.filter_engine.specs.declared.glob.place.Place.{Place}
use Rattle.filter_engine.specs.declared.glob.place.Place.TheVariants as place
use Rattle.filter_engine.proofs.GlobParts.{heads, apart}
use Rattle.filter_engine.proofs.GlobPatterns.{kind_same, alt_means, empty_means, never_means}
use Rattle.filter_engine.proofs.GlobPieces.{and_false, and_true, no_pattern, no_end}

module _ (inside : Bool) (levels : ℕ) where
  -- The text writes pieces that are read, one behind another, and the rest, which is to be read.
  abbrev pub ReadTo : List ℕ → Place → List ℕ → List Hir → Type 0
  ReadTo text at rest hirs =
      (done : Row → Row)
      × ((row : Row) (left : List ℕ) → WritesRow inside levels place.Start text row left
      ↔ ((next : Row) × (row ≡ done next) × WritesRow inside levels at rest next left))
      × ((next : Row) → is_empty (done next) ≡ (is_nil hirs && is_empty next))
      × ((next : Row) (tails : List Re) → MatchesKind (RowTakes next) (cat_all tails)
      → MatchesKind (RowTakes (done next)) (cat_all (map meaning hirs ++ tails)))

  -- Nothing is read.
  pub none_read : (text : List ℕ) → ReadTo text place.Start text []
  none_read text = (
    λ row. row,
    λ row left. (
      λ w. (row, refl, w),
      λ (found : (next : Row) × (row ≡ next) × WritesRow inside levels place.Start text next left).
          subst (λ r. WritesRow inside levels place.Start text r left) (sym found.1) found.2,
    ),
    λ next. refl,
    λ next tails means. means,
  )

  piece_written : (text : List ℕ) (at next_at : Place) (rest next : List ℕ) (done step : Row → Row)
      → ((row : Row) (left : List ℕ) → WritesRow inside levels place.Start text row left
      ↔ ((behind : Row) × (row ≡ done behind) × WritesRow inside levels at rest behind left))
      → ((row : Row) (left : List ℕ) → WritesRow inside levels at rest row left
      ↔ ((behind : Row) × (row ≡ step behind) × WritesRow inside levels next_at next behind left))
      → (row : Row) (left : List ℕ) → WritesRow inside levels place.Start text row left
      ↔ ((behind : Row) × (row ≡ done (step behind)) × WritesRow inside levels next_at next behind left)
  piece_written text at next_at rest next done step first second row left = (
    λ w.
        let found = (first row left).0 w in
        let more = (second found.0 left).0 found.2 in
        (more.0, found.1 ∙ ap done more.1, more.2),
    λ (found : (behind : Row) × (row ≡ done (step behind)) × WritesRow inside levels next_at next behind left).
        (first row left).1 (step found.0, found.1, (second (step found.0) left).1 (found.0, refl, found.2)),
  )

  -- One piece more is read.
  pub piece_read : (text : List ℕ) (at next_at : Place) (rest next : List ℕ) (old new : List Hir) (pattern : Option Hir)
      → ReadTo text at rest old → ReadsPiece inside levels at rest pattern next_at next → AddsPattern pattern old new
      → ReadTo text next_at next new
  piece_read text at next_at rest next old new None (done, writes, empties, means) (step, here, skipped) same = (
    λ row. done (step row),
    piece_written text at next_at rest next done step writes here,
    λ row. rw same (empties (step row) ∙ ap (λ b. is_nil old && b) (skipped row).0),
    λ row tails tail.
        rw same
        (means (step row) tails
        (kind_same (RowTakes row) (RowTakes (step row)) (cat_all tails)
        (λ bytes. ((((skipped row).1 bytes).1), (((skipped row).1 bytes).0)))
        tail)),
  )
  piece_read text at next_at rest next old new (Some hir) (done, writes, empties, means) (step, here, matched) more = (
    λ row. done (step row),
    piece_written text at next_at rest next done step writes here,
    λ row. rw more (empties (step row) ∙ ap (λ b. is_nil old && b) (matched row).0 ∙ and_false (is_nil old)
        ∙ ap (λ b. b && is_empty row) (sym (no_pattern old hir))),
    λ row tails tail.
        rw (more, map-append meaning old (hir ∷ []), append_assoc (map meaning old) (meaning hir ∷ []) tails)
        (means (step row) (meaning hir ∷ tails) ((matched row).1 (cat_all tails) tail)),
  )

  pub row_ends : (rest : List ℕ) (at : Place) → ends_row inside rest ≡ true → (row : Row) (left : List ℕ)
      → WritesRow inside levels at rest row left ↔ ((row ≡ end) × (left ≡ rest))
  row_ends rest at ends end left = (
    λ (w : (rest ≡ left) × (ends_row inside rest ≡ true)). (refl, sym w.0),
    λ (same : (end ≡ end) × (left ≡ rest)). (sym same.1, ends),
  )
  row_ends rest at ends (part p row) left = (
    λ (w : (ends_row inside rest ≡ false)
        × ((m : List ℕ) × WritesPart inside at rest p m × WritesRow inside levels (behind at p) m row left)).
        absurd (true≢false (sym ends ∙ w.0)),
    λ (same : (part p row ≡ end) × (left ≡ rest)). absurd (let e = same.0 in cc),
  )
  row_ends rest at ends (class c row) left = (
    λ (w : (i : List ℕ) × (m : List ℕ) × (rest ≡ 91 ∷ i) × WritesClass i c m
        × WritesRow inside levels place.Elsewhere m row left).
        absurd (no_end inside rest 91 w.0 w.2 (inl refl) ends),
    λ (same : (class c row ≡ end) × (left ≡ rest)). absurd (let e = same.0 in cc),
  )
  row_ends rest at ends (group b row) left = (
    λ (w : (i : List ℕ) × (m : List ℕ) × (below : ℕ) × (rest ≡ 123 ∷ i) × (levels ≡ below + 1)
        × WritesBranches below i b m
        × WritesRow inside levels place.Elsewhere m row left).
        absurd (no_end inside rest 123 w.0 w.3 (inr refl) ends),
    λ (same : (group b row ≡ end) × (left ≡ rest)). absurd (let e = same.0 in cc),
  )

  -- Where the row ends, it is read.
  pub row_read : (text : List ℕ) (at : Place) (rest : List ℕ) (hirs : List Hir) → ReadTo text at rest hirs
      → ends_row inside rest ≡ true
      → ReadsRow inside levels text hirs rest
  row_read text at rest hirs (done, writes, empties, means) ends = (
    done end,
    λ row left. (
      λ w.
          let found = (writes row left).0 w in
          let ended = (row_ends rest at ends found.0 left).0 found.2 in
          (found.1 ∙ ap done ended.0, ended.1),
      λ (same : (row ≡ done end) × (left ≡ rest)).
          (writes row left).1 (end, same.0, (row_ends rest at ends end left).1 (refl, same.1)),
    ),
    (rw (append-nil (map meaning hirs)) at (means end [] empty_means), empties end ∙ and_true (is_nil hirs)),
  )

  -- Without a piece, the text writes no row.
  pub no_row : (text : List ℕ) (at : Place) (rest : List ℕ) (hirs : List Hir) → ReadTo text at rest hirs
      → ((row : Row) (left : List ℕ) → WritesRow inside levels at rest row left → ⊥)
      → (row : Row) (left : List ℕ) → WritesRow inside levels place.Start text row left → ⊥
  no_row text at rest hirs (done, writes, empties, means) none row left w = let found =
      (writes row left).0 w in none found.0 left found.2

  -- Where a piece is refused, so is the row.
  pub refused_row : (text : List ℕ) (at : Place) (rest : List ℕ) (hirs : List Hir) (fault : RowFault)
      → ReadTo text at rest hirs
      → NoRow inside levels at rest fault → NoRow inside levels place.Start text fault
  refused_row text at rest hirs fault read none =
      ⊎_elim
      (λ (memory : fault ≡ Memory). inl memory)
      (λ (none : (row : Row) (left : List ℕ) → WritesRow inside levels at rest row left → ⊥). inr
      (no_row text at rest hirs read none))
      none

-- ---- groups

module _ (levels : ℕ) where
  -- The text writes branches that are read, one behind another, and the rest, which is to be read.
  abbrev pub ReadBranches : List ℕ → List ℕ → List Hir → Type 0
  ReadBranches text rest hirs =
      (done : Branches → Branches)
      × ((branches : Branches) (left : List ℕ) → WritesBranches levels text branches left
      ↔ ((next : Branches) × (branches ≡ done next) × WritesBranches levels rest next left))
      × ((next : Branches) → are_empty (done next) ≡ (is_nil hirs && are_empty next))
      × ((next : Branches) (tails : List Re) → MatchesKind (SomeTakes next) (alt_all tails)
      → MatchesKind (SomeTakes (done next)) (alt_all (map meaning hirs ++ tails)))

  -- No branch is read.
  pub no_branches : (text : List ℕ) → ReadBranches text text []
  no_branches text = (
    λ branches. branches,
    λ branches left. (
      λ w. (branches, refl, w),
      λ (found : (next : Branches) × (branches ≡ next) × WritesBranches levels text next left).
          subst (λ b. WritesBranches levels text b left) (sym found.1) found.2,
    ),
    λ next. refl,
    λ next tails means. means,
  )

  -- What is written where a branch ends before a comma.
  pub branch_behind : (rest next : List ℕ) (row : Row) → WritesOneRow true levels rest row (44 ∷ next)
      → (branches : Branches) (left : List ℕ)
      → WritesBranches levels rest branches left
      ↔ ((behind : Branches) × (branches ≡ also row behind) × WritesBranches levels next behind left)
  branch_behind rest next row one (only other) left = (
    λ (w : WritesRow true levels place.Start rest other (125 ∷ left)).
        absurd (apart 44 125 next left (44 ∷ next) refl (sym ((one other (125 ∷ left)).0 w).1) (omega arith)),
    λ (found : (behind : Branches) × (only other ≡ also row behind) × WritesBranches levels next behind left).
        absurd (let e = found.1 in cc),
  )
  branch_behind rest next row one (also other branches) left = (
    λ (w : (after : List ℕ) × WritesRow true levels place.Start rest other (44 ∷ after)
        × WritesBranches levels after branches left).
        let same = (one other (44 ∷ w.0)).0 w.1 in
        let e = same.1 in
        let same_rest : w.0 ≡ next = cc in
        (branches, ap (λ r. also r branches) same.0, subst (λ t. WritesBranches levels t branches left) same_rest w.2),
    λ (found : (behind : Branches) × (also other branches ≡ also row behind) × WritesBranches levels next behind left).
        subst (λ b. WritesBranches levels rest b left) (sym found.1)
        (next, (one row (44 ∷ next)).1 (refl, refl), found.2),
  )

  -- What is written where a branch ends before a brace.
  pub last_behind : (rest next : List ℕ) (row : Row) → WritesOneRow true levels rest row (125 ∷ next)
      → (branches : Branches) (left : List ℕ)
      → WritesBranches levels rest branches left ↔ ((branches ≡ only row) × (left ≡ next))
  last_behind rest next row one (only other) left = (
    λ (w : WritesRow true levels place.Start rest other (125 ∷ left)).
        let same = (one other (125 ∷ left)).0 w in let e = same.1 in (ap only same.0, cc),
    λ (same : (only other ≡ only row) × (left ≡ next)).
        let e = same.0 in
        let same_row : other ≡ row = cc in
        (one other (125 ∷ left)).1 (same_row, ap (λ l. 125 ∷ l) same.1),
  )
  last_behind rest next row one (also other branches) left = (
    λ (w : (after : List ℕ) × WritesRow true levels place.Start rest other (44 ∷ after)
        × WritesBranches levels after branches left).
        absurd (apart 44 125 w.0 next (44 ∷ w.0) refl ((one other (44 ∷ w.0)).0 w.1).1 (omega arith)),
    λ (same : (also other branches ≡ only row) × (left ≡ next)). absurd (let e = same.0 in cc),
  )

  -- One branch's pattern in front of the others.
  branch_means : (row : Row) (hirs : List Hir) → RowPatterns row hirs
      → (branches : Branches) (old new : List Hir) → AddsBranch hirs old new → (tails : List Re)
      → MatchesKind (SomeTakes branches) (alt_all tails)
      → (r : List Re) × (map meaning new ++ tails ≡ map meaning old ++ r)
      × MatchesKind (SomeTakes (also row branches)) (alt_all r)
  branch_means row [] (means, none) branches old new same tails rest = (
    tails,
    ap (λ l. map meaning l ++ tails) same,
    kind_same (SomeTakes branches) (SomeTakes (also row branches)) (alt_all tails)
        (λ bytes. (
          λ some. inr some,
          λ (t : ((is_empty row ≡ false) × RowTakes row bytes) ⊎ SomeTakes branches bytes).
              ⊎_elim (λ (here : (is_empty row ≡ false) × RowTakes row bytes). absurd
              (true≢false (sym none ∙ here.0))) (λ (some : SomeTakes branches bytes). some) t,
        ))
        rest,
  )
  branch_means row (h ∷ hirs) (means, some) branches old new (hir, is, is_cat) tails rest = (
    meaning hir ∷ tails,
    ap (λ l. map meaning l ++ tails) is ∙ ap (λ l. l ++ tails) (map-append meaning old (hir ∷ []))
        ∙ append_assoc (map meaning old) (meaning hir ∷ []) tails,
    alt_means (λ bytes. (is_empty row ≡ false) × RowTakes row bytes) (SomeTakes branches) (meaning hir) (alt_all tails)
        (kind_same (RowTakes row) (λ bytes. (is_empty row ≡ false) × RowTakes row bytes) (meaning hir)
        (λ bytes. (λ t. (some, t), λ (t : (is_empty row ≡ false) × RowTakes row bytes). t.1))
        (subst (λ re. MatchesKind (RowTakes row) re) (sym is_cat) means))
        rest,
  )

  branch_empty : (row : Row) (hirs : List Hir) → RowPatterns row hirs → (old new : List Hir)
      → AddsBranch hirs old new → (b : Bool)
      → (is_nil old && (is_empty row && b)) ≡ (is_nil new && b)
  branch_empty row [] (means, none) old new same b = rw (same, none) refl
  branch_empty row (h ∷ hirs) (means, some) old new (hir, is, is_cat) b =
      rw (is, some, no_pattern old hir) (and_false (is_nil old))

  -- One branch more is read.
  pub branch_read : (text rest next : List ℕ) (old new hirs : List Hir) → ReadBranches text rest old
      → ReadsRow true levels rest hirs (44 ∷ next)
      → AddsBranch hirs old new → ReadBranches text next new
  branch_read text rest next old new hirs (done, writes, empties, means) (row, one, patterns) adds = (
    λ branches. done (also row branches),
    λ branches left. (
      λ w.
          let found = (writes branches left).0 w in
          let more = (branch_behind rest next row one found.0 left).0 found.2 in
          (more.0, found.1 ∙ ap done more.1, more.2),
      λ (found : (behind : Branches) × (branches ≡ done (also row behind)) × WritesBranches levels next behind left).
          (writes branches left).1 (
            also row found.0,
            found.1,
            (branch_behind rest next row one (also row found.0) left).1 (found.0, refl, found.2),
          ),
    ),
    λ branches. empties (also row branches) ∙ branch_empty row hirs patterns old new adds (are_empty branches),
    λ branches tails tail.
        let here = branch_means row hirs patterns branches old new adds tails tail in
        subst (λ l. MatchesKind (SomeTakes (done (also row branches))) (alt_all l)) (sym here.1)
        (means (also row branches) here.0 here.2),
  )

  last_means : (row : Row) (hirs : List Hir) → RowPatterns row hirs → (old new : List Hir) → AddsBranch hirs old new
      → (r : List Re) × (map meaning new ≡ map meaning old ++ r) × MatchesKind (SomeTakes (only row)) (alt_all r)
  last_means row [] (means, none) old new same = (
    [],
    ap (map meaning) same ∙ sym (append-nil (map meaning old)),
    never_means (SomeTakes (only row))
        (λ bytes (t : (is_empty row ≡ false) × RowTakes row bytes). true≢false (sym none ∙ t.0)),
  )
  last_means row (h ∷ hirs) (means, some) old new (hir, is, is_cat) = (
    meaning hir ∷ [],
    ap (map meaning) is ∙ map-append meaning old (hir ∷ []),
    kind_same (λ bytes. ((is_empty row ≡ false) × RowTakes row bytes) ⊎ ⊥) (SomeTakes (only row))
        (alt_all (meaning hir ∷ []))
        (λ bytes. (
          λ (t : ((is_empty row ≡ false) × RowTakes row bytes) ⊎ ⊥). ⊎_elim
              (λ (x : (is_empty row ≡ false) × RowTakes row bytes). x) (λ (x : ⊥). absurd x) t,
          λ (t : (is_empty row ≡ false) × RowTakes row bytes). inl t,
        ))
        (alt_means (λ bytes. (is_empty row ≡ false) × RowTakes row bytes) (λ bytes. ⊥) (meaning hir) (byte_in [])
        (kind_same (RowTakes row) (λ bytes. (is_empty row ≡ false) × RowTakes row bytes) (meaning hir)
        (λ bytes. (λ t. (some, t), λ (t : (is_empty row ≡ false) × RowTakes row bytes). t.1))
        (subst (λ re. MatchesKind (RowTakes row) re) (sym is_cat) means))
        (never_means (λ bytes. ⊥) (λ bytes t. t))),
  )

  last_empty : (row : Row) (hirs : List Hir) → RowPatterns row hirs → (old new : List Hir) → AddsBranch hirs old new
      → (is_nil old && is_empty row) ≡ is_nil new
  last_empty row [] (means, none) old new same = rw (same, none) (and_true (is_nil old))
  last_empty row (h ∷ hirs) (means, some) old new (hir, is, is_cat) =
      rw (is, some, no_pattern old hir) (and_false (is_nil old))

  -- The pattern of branches that are all read.
  pattern_of : (branches : Branches) (hirs : List Hir) (pattern : Option Hir) → are_empty branches ≡ is_nil hirs
      → MatchesKind (SomeTakes branches) (alt_all (map meaning hirs)) → MatchesAny hirs pattern
      → GroupPattern branches pattern
  pattern_of branches [] pattern empties means none = subst (GroupPattern branches) (sym none) empties
  pattern_of branches (h ∷ hirs) pattern empties means (hir, is, any) =
      subst (GroupPattern branches) (sym is) (empties, subst (MatchesKind (SomeTakes branches)) (sym any) means)

  -- Where the last branch ends, the group is read.
  pub last_read : (text rest next : List ℕ) (old new hirs : List Hir) (pattern : Option Hir)
      → ReadBranches text rest old
      → ReadsRow true levels rest hirs (125 ∷ next) → AddsBranch hirs old new → MatchesAny new pattern
      → ReadsGroup levels text pattern next
  last_read text rest next old new hirs pattern (done, writes, empties, means) (row, one, patterns) adds any =
      let here = last_means row hirs patterns old new adds in (
        done (only row),
        λ branches left. (
          λ w.
              let found = (writes branches left).0 w in
              let ended = (last_behind rest next row one found.0 left).0 found.2 in
              (found.1 ∙ ap done ended.0, ended.1),
          λ (same : (branches ≡ done (only row)) × (left ≡ next)).
              (writes branches left).1 (
                only row,
                same.0,
                (last_behind rest next row one (only row) left).1
                    (refl, same.1),
              ),
        ),
        pattern_of (done (only row)) new pattern (empties (only row) ∙ last_empty row hirs patterns old new adds)
            (subst (λ l. MatchesKind (SomeTakes (done (only row))) (alt_all l)) (sym here.1)
            (means (only row) here.0 here.2)) any,
      )

  pub first_row : (rest : List ℕ) (branches : Branches) (left : List ℕ) → WritesBranches levels rest branches left
      → (row : Row) × (after : List ℕ) × WritesRow true levels place.Start rest row after
  first_row rest (only row) left w = (row, 125 ∷ left, w)
  first_row rest (also row branches) left w = (row, 44 ∷ w.0, w.1)

  -- Without a branch, the text writes no group.
  pub no_group : (text rest : List ℕ) (hirs : List Hir) → ReadBranches text rest hirs
      → ((row : Row) (left : List ℕ) → WritesRow true levels place.Start rest row left → ⊥)
      → (branches : Branches) (left : List ℕ) → WritesBranches levels text branches left → ⊥
  no_group text rest hirs (done, writes, empties, means) none branches left w =
      let found = (writes branches left).0 w in
      let first = first_row rest found.0 left found.2 in
      none first.0 first.1 first.2

  -- Where a branch is refused, so is the group.
  pub refused_branch : (text rest : List ℕ) (hirs : List Hir) (fault : RowFault) → ReadBranches text rest hirs
      → NoRow true levels place.Start rest fault → NoGroup levels text fault
  refused_branch text rest hirs fault read none =
      ⊎_elim
      (λ (memory : fault ≡ Memory). inl memory)
      (λ (none : (row : Row) (left : List ℕ) → WritesRow true levels place.Start rest row left → ⊥). inr
      (no_group text rest hirs read none))
      none

-- A branch ends before a comma or a brace.
pub branch_ends : (text : List ℕ) → ends_row true text ≡ true
    → ((rest : List ℕ) × (text ≡ 44 ∷ rest)) ⊎ ((rest : List ℕ) × (text ≡ 125 ∷ rest))
branch_ends [] e = absurd (true≢false (sym e))
branch_ends (b ∷ rest) e =
    ⊎_elim
    (λ (comma : (b == 44) ≡ true). inl (rest, ap (λ c. c ∷ rest) (eqb-true b 44 comma)))
    (λ (brace : (b == 125) ≡ true). inr (rest, ap (λ c. c ∷ rest) (eqb-true b 125 brace)))
    (or_cases (b == 44) (b == 125) e)

-- A branch's end takes a byte.
pub branch_room : (text : List ℕ) → ends_row true text ≡ true → 0 < length text
branch_room [] e = absurd (true≢false (sym e))
branch_room (b ∷ rest) e = omega arith

-- A branch's end lies within the text.
pub branch_inside : (text : List ℕ) (at len : ℕ) → ends_row true (drop len (drop at text)) ≡ true
    → at + len < length text
branch_inside text at len ends =
    omega (arith, branch_room (drop len (drop at text)) ends, length-drop len (drop at text), length-drop at text)

-- What is behind a branch, from the byte that ends it on.
pub branch_end : (text : List ℕ) (at len byte : ℕ) → ends_row true (drop len (drop at text)) ≡ true
    → get_or text (at + len) 0 ≡ byte
    → drop len (drop at text) ≡ byte ∷ drop (at + (len + 1)) text
branch_end text at len byte ends is =
    drop-drop len at text ∙ drop_more text (at + len) 0 (branch_inside text at len ends)
    ∙ ap (λ b. b ∷ drop (at + len + 1) text) is
    ∙ ap (λ k. byte ∷ drop k text) (omega arith)

-- A branch that ends before no brace ends before a comma.
pub branch_comma : (text : List ℕ) (at len : ℕ) → ends_row true (drop len (drop at text)) ≡ true
    → (get_or text (at + len) 0 ≡ 125 → ⊥)
    → get_or text (at + len) 0 ≡ 44
branch_comma text at len ends no_brace =
    let here = branch_end text at len (get_or text (at + len) 0) ends refl in
    ⊎_elim
    (λ (comma : (rest : List ℕ) × (drop len (drop at text) ≡ 44 ∷ rest)). (heads _ _ _ _ _ here comma.1).0)
    (λ (brace : (rest : List ℕ) × (drop len (drop at text) ≡ 125 ∷ rest)). absurd
    (no_brace (heads _ _ _ _ _ here brace.1).0))
    (branch_ends (drop len (drop at text)) ends)
