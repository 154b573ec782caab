-- What changes for the whole run between swapped sides.
use Rattle.std.proofs.Common.{◌≡◌, ◌∙◌, ◌⊎◌, inl, inr, ℕ, ◌+◌, ◌||◌, Bool, true, false, cond, List, [], ◌∷◌, ◌++◌, None, length, length-append, map, option_map, bytes_eq, string_bytes, refl, sym, ap, subst, arith}
use Rattle.std.specs.List.{AllByRecursion, AllZip}
use Rattle.std.specs.Cmp.Lexicographic.{bytes_decides}
use Rattle.std.proofs.lemmas.List.Elements.{filter-append, length_all_zip, recursion_from_All}
use Rattle.rinqebo_report.specs.declared.report.SettingRow.{SettingRow}
use Rattle.rinqebo_changes.specs.Changes.{change_of, is_change, side_row}
use Rattle.rinqebo_changes.specs.Keyed.{is_of, has_key, rows_of, AreAligned, AreAlike, AreKeyedChanges, HaveSameKey, SaysNothing}
use Rattle.rinqebo_changes.specs.ValueViews.{value_view}
use Rattle.rinqebo_changes.specs.declared.change.RowChange.{RowChange}
use Rattle.rinqebo_changes.specs.declared.change.SideRow.{SideRow}
use Rattle.rinqebo_changes.proofs.Zips.{zip_behind}
use Rattle.rinqebo_diff.specs.TurnedSides.{changes_of, AreTurnedRuns, IsTurned, IsTurnedAt, SaySame}
use Rattle.rinqebo_diff.proofs.TurnedRows.{both_kept, change_turned, changed_from, turned_from}

-- ---- the rows of a key

-- the key of a row that is of it
key_of : (name : List ℕ) (row : SettingRow) → is_of name row ≡ true → string_bytes row.key ≡ name
key_of name row is = (bytes_decides (string_bytes row.key) name).0 is

-- rows beside each other, those of a key
keyed_beside : (R : SettingRow → SettingRow → Type 0) (name : List ℕ)
    → ((x y : SettingRow) → R x y → HaveSameKey x y) → (xs ys : List SettingRow) → AllZip R xs ys
    → AllZip R (rows_of name xs) (rows_of name ys)
keyed_beside R name keys [] [] all = tt
keyed_beside R name keys [] (y ∷ ys) all = absurd all
keyed_beside R name keys (x ∷ xs) [] all = absurd all
keyed_beside R name keys (x ∷ xs) (y ∷ ys) all =
    both_kept R (is_of name x) (is_of name y) x y (rows_of name xs) (rows_of name ys)
    (ap (λ key. bytes_eq key name) (sym (keys x y all.0))) all.0 (keyed_beside R name keys xs ys all.1)

none_more : (p q : Bool) (row : SettingRow) (rows : List SettingRow) → (p || q) ≡ false → (q ≡ false → rows ≡ [])
    → cond p (row ∷ rows) rows ≡ []
none_more true q row rows none rest = absurd (cc)
none_more false q row rows none rest = rest none

-- no row is of a key that rows lack
none_of : (name : List ℕ) (rows : List SettingRow) → has_key rows name ≡ false → rows_of name rows ≡ []
none_of name [] none = refl
none_of name (row ∷ rows) none =
    none_more (is_of name row) (has_key rows name) row (rows_of name rows) none (λ rest. none_of name rows rest)

-- ---- rows without a value

-- A row says that there is no value for a key.
record IsNothing (name : List ℕ) (row : SettingRow) : Type 0 where
  key : string_bytes row.key ≡ name
  value : row.value ≡ None

one_nothing : (name : List ℕ) (row : SettingRow) (rows : List SettingRow) (b : Bool) → is_of name row ≡ b
    → SaysNothing row → AllByRecursion (IsNothing name) rows → AllByRecursion (IsNothing name) (cond b (row ∷ rows) rows)
one_nothing name row rows true is nothing all = (record { key = key_of name row is; value = nothing.value }, all)
one_nothing name row rows false is nothing all = all

all_nothing : (name : List ℕ) (rows : List SettingRow) → AllByRecursion SaysNothing rows
    → AllByRecursion (IsNothing name) (rows_of name rows)
all_nothing name [] all = tt
all_nothing name (row ∷ rows) all =
    one_nothing name row (rows_of name rows) (is_of name row) refl all.0 (all_nothing name rows all.1)

-- as many rows without a value for a key are alike
nothing_alike : (name : List ℕ) (xs ys : List SettingRow) → AllByRecursion (IsNothing name) xs
    → AllByRecursion (IsNothing name) ys → length xs ≡ length ys → AllZip AreAlike xs ys
nothing_alike name [] [] one two same = tt
nothing_alike name [] (y ∷ ys) one two same = absurd (omega (arith, same))
nothing_alike name (x ∷ xs) [] one two same = absurd (omega (arith, same))
nothing_alike name (x ∷ xs) (y ∷ ys) one two same = (
  record {
    key = one.0.key ∙ sym two.0.key;
    value = ap (option_map value_view) (one.0.value ∙ sym two.0.value);
  },
  nothing_alike name xs ys one.1 two.1 (omega (arith, same)),
)

one_side : (name : List ℕ) (row : SettingRow) (rows others : List SettingRow) (b : Bool) → is_of name row ≡ b
    → has_key others (string_bytes row.key) ≡ false → (rows ≡ []) ⊎ (rows_of name others ≡ [])
    → (cond b (row ∷ rows) rows ≡ []) ⊎ (rows_of name others ≡ [])
one_side name row rows others true is apart rest =
    inr (none_of name others (subst (λ key. has_key others key ≡ false) (key_of name row is) apart))
one_side name row rows others false is apart rest = rest

-- a key that one list has is none of the others, so one of both has no rows of it
either_none : (name : List ℕ) (rows others : List SettingRow)
    → AllByRecursion (λ row. has_key others (string_bytes row.key) ≡ false) rows
    → (rows_of name rows ≡ []) ⊎ (rows_of name others ≡ [])
either_none name [] others apart = inl refl
either_none name (row ∷ rows) others apart =
    one_side name row (rows_of name rows) others (is_of name row) refl apart.0 (either_none name rows others apart.1)

-- ---- rows that are put beside each other

module _ (from to left right : List SettingRow) (are : AreAligned from to left right) (name : List ℕ) where
  -- how many rows of the key are put in on each side
  abbrev in_left : ℕ
  in_left = length (rows_of name are.left_absent)

  abbrev in_right : ℕ
  in_right = length (rows_of name are.right_absent)

  left_parts : rows_of name left ≡ rows_of name from ++ rows_of name are.left_absent
  left_parts = ap (rows_of name) are.left_rows ∙ filter-append (is_of name) from are.left_absent

  right_parts : rows_of name right ≡ rows_of name to ++ rows_of name are.right_absent
  right_parts = sym (are.right_order.each name) ∙ filter-append (is_of name) to are.right_absent

  -- both sides get as many rows of the key
  as_many : length (rows_of name from) + in_left ≡ length (rows_of name to) + in_right
  as_many =
      sym (ap length left_parts ∙ length-append (rows_of name from) (rows_of name are.left_absent))
      ∙ length_all_zip HaveSameKey (rows_of name left) (rows_of name right)
      (keyed_beside HaveSameKey name (λ x y same. same) left right are.keys)
      ∙ ap length right_parts ∙ length-append (rows_of name to) (rows_of name are.right_absent)

  -- and one of them has none put in
  one_full : (in_right ≡ 0) ⊎ (in_left ≡ 0)
  one_full = elim (either_none name are.right_absent are.left_absent (recursion_from_All _ are.right_absent are.apart)) [
    | inl none ↦ inl (ap length none)
    | inr none ↦ inr (ap length none)
  ]

-- if as many are put in on each side that has fewer, as many are put in from both sides
balanced : (b a la ra c d lo ro : ℕ) → b + la ≡ a + ra → d + lo ≡ c + ro → b ≡ c → a ≡ d → (ra ≡ 0) ⊎ (la ≡ 0)
    → (ro ≡ 0) ⊎ (lo ≡ 0) → (la ≡ ro) × (ra ≡ lo)
balanced b a la ra c d lo ro one two left right (inl f) (inl g) =
    (omega (arith, one, two, left, right, f, g), omega (arith, one, two, left, right, f, g))
balanced b a la ra c d lo ro one two left right (inl f) (inr g) =
    (omega (arith, one, two, left, right, f, g), omega (arith, one, two, left, right, f, g))
balanced b a la ra c d lo ro one two left right (inr f) (inl g) =
    (omega (arith, one, two, left, right, f, g), omega (arith, one, two, left, right, f, g))
balanced b a la ra c d lo ro one two left right (inr f) (inr g) =
    (omega (arith, one, two, left, right, f, g), omega (arith, one, two, left, right, f, g))

says_same : (xs ys : List SettingRow) → AllZip AreAlike xs ys → AllZip SaySame (map side_row xs) (map side_row ys)
says_same [] [] all = tt
says_same [] (y ∷ ys) all = absurd all
says_same (x ∷ xs) [] all = absurd all
says_same (x ∷ xs) (y ∷ ys) all =
    (record { key = all.0.key; value = all.0.value; ignored = refl }, says_same xs ys all.1)

-- ---- the changes of a key

-- the two rows of a change
abbrev ends : RowChange → SideRow × SideRow
ends c = (c.from, c.to)

-- two rows are those of another change, from the other side
abbrev AreTurnedEnds : SideRow × SideRow → SideRow × SideRow → Type 0
AreTurnedEnds p q = SaySame p.0 q.1 × SaySame p.1 q.0

ends_turned : (xs ys : List RowChange) → AllZip (IsTurnedAt SaySame SaySame) xs ys → AllZip AreTurnedEnds (map ends xs) (map ends ys)
ends_turned [] [] all = tt
ends_turned [] (y ∷ ys) all = absurd all
ends_turned (x ∷ xs) [] all = absurd all
ends_turned (x ∷ xs) (y ∷ ys) all = ((all.0.from, all.0.to), ends_turned xs ys all.1)

by_ends : (xs ys : List RowChange) → AllZip AreTurnedEnds (map ends xs) (map ends ys) → AllZip IsTurned xs ys
by_ends [] [] all = tt
by_ends [] (y ∷ ys) all = absurd all
by_ends (x ∷ xs) [] all = absurd all
by_ends (x ∷ xs) (y ∷ ys) all = (record { from = all.0.0; to = all.0.1 }, by_ends xs ys all.1)

-- lists with the same rows have them with one more change
same_ends : (q : Bool) (c d : RowChange) (xs ys : List RowChange) → ends c ≡ ends d → map ends xs ≡ map ends ys
    → map ends (cond q (c ∷ xs) xs) ≡ map ends (cond q (d ∷ ys) ys)
same_ends true c d xs ys one rest = λ i. one i ∷ rest i
same_ends false c d xs ys one rest = rest

either_way : (q : Bool) (xs : List RowChange) → cond q xs xs ≡ xs
either_way true xs = refl
either_way false xs = refl

module _ (test : SideRow → SideRow → Bool) (name : List ℕ) where
  of_one_more : (q : Bool) (c : RowChange) (rest : List RowChange) → changes_of name (cond q (c ∷ rest) rest)
      ≡ cond q (cond (is_of name c.from.row) (c ∷ changes_of name rest) (changes_of name rest)) (changes_of name rest)
  of_one_more true c rest = refl
  of_one_more false c rest = refl

  one_more : (p q : Bool) (l r : SettingRow) (ls rs : List SettingRow) (n m : ℕ) (xs : List RowChange) → q ≡ p
      → map ends xs ≡ map ends (changed_from test m (map side_row ls) (map side_row rs))
      → map ends xs ≡ map ends (changed_from test (m + 1) (map side_row ls) (map side_row rs))
      → map ends (cond (test (side_row l) (side_row r)) (cond p (change_of (n, (side_row l, side_row r)) ∷ xs) xs) xs)
      ≡ map ends (changed_from test m (map side_row (cond p (l ∷ ls) ls)) (map side_row (cond q (r ∷ rs) rs)))
  one_more true true l r ls rs n m xs same here more =
      same_ends (test (side_row l) (side_row r)) (change_of (n, (side_row l, side_row r)))
      (change_of (m, (side_row l, side_row r))) xs (changed_from test (m + 1) (map side_row ls) (map side_row rs)) refl more
  one_more true false l r ls rs n m xs same here more = absurd (cc)
  one_more false true l r ls rs n m xs same here more = absurd (cc)
  one_more false false l r ls rs n m xs same here more =
      ap (map ends) (either_way (test (side_row l) (side_row r)) xs) ∙ here

  -- the changes of a key are those between its rows
  kept_ends : (n m : ℕ) (ls rs : List SettingRow) → AllZip HaveSameKey ls rs
      → map ends (changes_of name (changed_from test n (map side_row ls) (map side_row rs)))
      ≡ map ends (changed_from test m (map side_row (rows_of name ls)) (map side_row (rows_of name rs)))
  kept_ends n m [] [] keys = refl
  kept_ends n m [] (r ∷ rs) keys = absurd keys
  kept_ends n m (l ∷ ls) [] keys = absurd keys
  kept_ends n m (l ∷ ls) (r ∷ rs) keys =
      let rest = changed_from test (n + 1) (map side_row ls) (map side_row rs) in
      ap (map ends) (of_one_more (test (side_row l) (side_row r)) (change_of (n, (side_row l, side_row r))) rest)
      ∙ one_more (is_of name l) (is_of name r) l r (rows_of name ls) (rows_of name rs) n m (changes_of name rest)
      (ap (λ key. bytes_eq key name) (sym keys.0)) (kept_ends (n + 1) m ls rs keys.1)
      (kept_ends (n + 1) (m + 1) ls rs keys.1)

-- ---- both ways

module _ (before after others more : List SettingRow) (lefts : AllZip AreAlike before more)
    (rights : AllZip AreAlike after others) where
  -- rows beside each other of one key, from the other side
  module _ (left right back front : List SettingRow) (one : AreAligned before after left right)
      (two : AreAligned others more back front) (name : List ℕ) where
    alike_key : (x y : SettingRow) → AreAlike x y → HaveSameKey x y
    alike_key x y alike = alike.key

    lefts_of : AllZip AreAlike (rows_of name before) (rows_of name more)
    lefts_of = keyed_beside AreAlike name alike_key before more lefts

    rights_of : AllZip AreAlike (rows_of name after) (rows_of name others)
    rights_of = keyed_beside AreAlike name alike_key after others rights

    put_in : (length (rows_of name one.left_absent) ≡ length (rows_of name two.right_absent))
        × (length (rows_of name one.right_absent) ≡ length (rows_of name two.left_absent))
    put_in =
        balanced (length (rows_of name before)) (length (rows_of name after)) (length (rows_of name one.left_absent))
        (length (rows_of name one.right_absent)) (length (rows_of name more)) (length (rows_of name others))
        (length (rows_of name two.left_absent)) (length (rows_of name two.right_absent))
        (as_many before after left right one name) (as_many others more back front two name)
        (length_all_zip AreAlike (rows_of name before) (rows_of name more) lefts_of)
        (length_all_zip AreAlike (rows_of name after) (rows_of name others) rights_of)
        (one_full before after left right one name) (one_full others more back front two name)

    nothing : (rows absent : List SettingRow) → AllByRecursion SaysNothing rows → AllByRecursion SaysNothing absent
        → length (rows_of name rows) ≡ length (rows_of name absent)
        → AllZip AreAlike (rows_of name rows) (rows_of name absent)
    nothing rows absent is are same =
        nothing_alike name (rows_of name rows) (rows_of name absent) (all_nothing name rows is)
        (all_nothing name absent are) same

    left_side : AllZip AreAlike (rows_of name left) (rows_of name front)
    left_side =
        subst (λ xs. AllZip AreAlike xs (rows_of name front)) (sym (left_parts before after left right one name))
        (subst (AllZip AreAlike (rows_of name before ++ rows_of name one.left_absent))
        (sym (right_parts others more back front two name))
        (zip_behind AreAlike (rows_of name before) (rows_of name one.left_absent) (rows_of name more)
        (rows_of name two.right_absent) lefts_of
        (nothing one.left_absent two.right_absent (recursion_from_All SaysNothing one.left_absent one.left_nothing)
        (recursion_from_All SaysNothing two.right_absent two.right_nothing) put_in.0)))

    right_side : AllZip AreAlike (rows_of name right) (rows_of name back)
    right_side =
        subst (λ xs. AllZip AreAlike xs (rows_of name back)) (sym (right_parts before after left right one name))
        (subst (AllZip AreAlike (rows_of name after ++ rows_of name one.right_absent))
        (sym (left_parts others more back front two name))
        (zip_behind AreAlike (rows_of name after) (rows_of name one.right_absent) (rows_of name others)
        (rows_of name two.left_absent) rights_of
        (nothing one.right_absent two.left_absent (recursion_from_All SaysNothing one.right_absent one.right_nothing)
        (recursion_from_All SaysNothing two.left_absent two.left_nothing) put_in.1)))

  abbrev test : SideRow → SideRow → Bool
  test = is_change [] [] false

  -- what changes between rows is what changes the other way between rows that are alike
  pub runs_turned : (changes turned : List RowChange) → AreKeyedChanges before after changes
      → AreKeyedChanges others more turned → AreTurnedRuns changes turned
  runs_turned changes turned one two = record { each = of_key }
    where
      of_key : (name : List ℕ) → AllZip IsTurned (changes_of name changes) (changes_of name turned)
      of_key name =
          let here = changed_from test 0 (map side_row (rows_of name one.left)) (map side_row (rows_of name one.right)) in
          let there = changed_from test 0 (map side_row (rows_of name two.left)) (map side_row (rows_of name two.right)) in
          let ends_here : map ends (changes_of name changes) ≡ map ends here =
          ap (λ cs. map ends (changes_of name cs)) one.are_changes
          ∙ kept_ends test name 0 0 one.left one.right one.aligned.keys in
          let ends_there : map ends (changes_of name turned) ≡ map ends there =
          ap (λ cs. map ends (changes_of name cs)) two.are_changes
          ∙ kept_ends test name 0 0 two.left two.right two.aligned.keys in
          let all : AllZip (IsTurnedAt SaySame SaySame) here there =
          turned_from SaySame SaySame test test (change_turned [] [] [] []) 0 (map side_row (rows_of name one.left)) (map side_row (rows_of name one.right))
          (map side_row (rows_of name two.left)) (map side_row (rows_of name two.right))
          (says_same (rows_of name one.left) (rows_of name two.right)
          (left_side one.left one.right two.left two.right one.aligned two.aligned name))
          (says_same (rows_of name one.right) (rows_of name two.left)
          (right_side one.left one.right two.left two.right one.aligned two.aligned name)) in
          by_ends (changes_of name changes) (changes_of name turned)
          (subst (λ es. AllZip AreTurnedEnds es (map ends (changes_of name turned))) (sym ends_here)
          (subst (AllZip AreTurnedEnds (map ends here)) (sym ends_there) (ends_turned here there all)))

-- ---- no changes

-- a change is one of those of its key
of_its_key : (c : RowChange) → is_of (string_bytes c.from.row.key) c.from.row ≡ true
of_its_key c = (bytes_decides (string_bytes c.from.row.key) (string_bytes c.from.row.key)).1 refl

none_right : (b : Bool) (c : RowChange) (cs : List RowChange) → b ≡ true → AllZip IsTurned [] (cond b (c ∷ cs) cs) → ⊥
none_right true c cs is all = all
none_right false c cs is all = absurd (cc)

none_left : (b : Bool) (c : RowChange) (cs : List RowChange) → b ≡ true → AllZip IsTurned (cond b (c ∷ cs) cs) [] → ⊥
none_left true c cs is all = all
none_left false c cs is all = absurd (cc)

-- where nothing changes, nothing changes the other way
pub none_into : (changes turned : List RowChange) → AreTurnedRuns changes turned → changes ≡ [] → turned ≡ []
none_into changes [] are none = refl
none_into changes (c ∷ cs) are none =
    let name = string_bytes c.from.row.key in
    absurd (none_right (is_of name c.from.row) c (changes_of name cs) (of_its_key c)
    (subst (λ xs. AllZip IsTurned (changes_of name xs) (changes_of name (c ∷ cs))) none (are.each name)))

pub none_back : (changes turned : List RowChange) → AreTurnedRuns changes turned → turned ≡ [] → changes ≡ []
none_back [] turned are none = refl
none_back (c ∷ cs) turned are none =
    let name = string_bytes c.from.row.key in
    absurd (none_left (is_of name c.from.row) c (changes_of name cs) (of_its_key c)
    (subst (λ xs. AllZip IsTurned (changes_of name (c ∷ cs)) (changes_of name xs)) none (are.each name)))
