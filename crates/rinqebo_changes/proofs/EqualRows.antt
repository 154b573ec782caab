-- Nothing changes between rows that are one by one alike.
use Rattle.std.proofs.Common.{◌≡◌, ◌∙◌, ℕ, ◌+◌, ◌<◌, Bool, true, false, cond, List, [], ◌∷◌, ◌++◌, option_map, length, length-append, map, refl, sym, ap, subst, arith, bytes_eq, string_bytes}
use Rattle.std.proofs.lemmas.List.{append-nil}
use Rattle.std.proofs.lemmas.List.Elements.{filter-append}
use Rattle.std.specs.List.{All, AllZip}
use Rattle.rinqebo_report.specs.declared.origin.Source.{Source}
use Rattle.rinqebo_report.specs.declared.report.SettingRow.{SettingRow}
use Rattle.rinqebo_changes.specs.Changes.{change_of, changed_rows, is_change, side_row}
use Rattle.rinqebo_changes.specs.Keyed.{is_of, has_key, rows_of, HaveSameKey, AreAligned, AreAlike, AreKeyedChanges}
use Rattle.rinqebo_changes.specs.ValueViews.{value_view}
use Rattle.rinqebo_changes.specs.declared.change.RowChange.{RowChange}
use Rattle.rinqebo_changes.specs.declared.change.SideRow.{SideRow}
use Rattle.rinqebo_changes.proofs.Exactly.{changed_from}
use Rattle.rinqebo_changes.proofs.KeyedOrders.{none_of, of_its_key}
use Rattle.rinqebo_changes.proofs.LikeSources.{unchanged}

-- Two rows have the same value.
pub record HaveSameValue (a b : SideRow) : Type 0 where
  pub same : option_map value_view a.row.value ≡ option_map value_view b.row.value

-- a row whose value stays does not change, where origins do not count
stays : (from to : List Source) (a b : SideRow) → HaveSameValue a b → is_change from to false a b ≡ false
stays from to a b alike = unchanged from to false a b alike.same (λ e. absurd (cc))

module _ (test : SideRow → SideRow → Bool) (Alike : SideRow → SideRow → Type 0)
    (same : (a b : SideRow) → Alike a b → test a b ≡ false) where
  none_from : (n : ℕ) (xs ys : List SideRow) → AllZip Alike xs ys → changed_from test n xs ys ≡ []
  none_from n [] [] all = refl
  none_from n [] (y ∷ ys) all = absurd all
  none_from n (x ∷ xs) [] all = absurd all
  none_from n (x ∷ xs) (y ∷ ys) all =
      let rest = changed_from test (n + 1) xs ys in
      ap (λ q. cond q (change_of (n, (x, y)) ∷ rest) rest) (same x y all.0) ∙ none_from (n + 1) xs ys all.1

  -- rows that are one by one alike do not change
  pub none_differ : (xs ys : List SideRow) → AllZip Alike xs ys → changed_rows test xs ys ≡ []
  none_differ xs ys all = none_from 0 xs ys all

-- rows that have one by one the same values do not change
pub none_change : (from to : List Source) (xs ys : List SideRow) → AllZip HaveSameValue xs ys
    → changed_rows (is_change from to false) xs ys ≡ []
none_change from to xs ys all = none_differ (is_change from to false) HaveSameValue (stays from to) xs ys all

-- rows of the same keys
keys_of : (xs ys : List SettingRow) → AllZip AreAlike xs ys → AllZip HaveSameKey xs ys
keys_of [] [] all = tt
keys_of [] (y ∷ ys) all = absurd all
keys_of (x ∷ xs) [] all = absurd all
keys_of (x ∷ xs) (y ∷ ys) all = (all.0.key, keys_of xs ys all.1)

values_of : (xs ys : List SettingRow) → AllZip AreAlike xs ys
    → AllZip HaveSameValue (map side_row xs) (map side_row ys)
values_of [] [] all = tt
values_of [] (y ∷ ys) all = absurd all
values_of (x ∷ xs) [] all = absurd all
values_of (x ∷ xs) (y ∷ ys) all = (record { same = all.0.value }, values_of xs ys all.1)

keys_through : (xs ys zs : List SettingRow) → AllZip HaveSameKey xs ys → AllZip HaveSameKey xs zs
    → AllZip HaveSameKey zs ys
keys_through [] [] [] one two = tt
keys_through [] [] (z ∷ zs) one two = absurd two
keys_through [] (y ∷ ys) zs one two = absurd one
keys_through (x ∷ xs) [] zs one two = absurd one
keys_through (x ∷ xs) (y ∷ ys) [] one two = absurd two
keys_through (x ∷ xs) (y ∷ ys) (z ∷ zs) one two = (sym two.0 ∙ one.0, keys_through xs ys zs one.1 two.1)

more_of : (b : Bool) (x y : SettingRow) (xs ys : List SettingRow) → length xs ≡ length ys
    → length (cond b (x ∷ xs) xs) ≡ length (cond b (y ∷ ys) ys)
more_of true x y xs ys same = omega (arith, same)
more_of false x y xs ys same = same

-- rows of the same keys have as many rows of each key
as_many : (name : List ℕ) (xs ys : List SettingRow) → AllZip HaveSameKey xs ys
    → length (rows_of name xs) ≡ length (rows_of name ys)
as_many name [] [] all = refl
as_many name [] (y ∷ ys) all = absurd all
as_many name (x ∷ xs) [] all = absurd all
as_many name (x ∷ xs) (y ∷ ys) all =
    more_of (is_of name x) x y (rows_of name xs) (rows_of name ys) (as_many name xs ys all.1)
    ∙ ap (λ k. length (cond (bytes_eq k name) (y ∷ rows_of name ys) (rows_of name ys))) all.0

several : (name : List ℕ) (xs ys : List SettingRow)
    → length (rows_of name (xs ++ ys)) ≡ length (rows_of name xs) + length (rows_of name ys)
several name xs ys = ap length (filter-append (is_of name) xs ys) ∙ length-append (rows_of name xs) (rows_of name ys)

has_one : (row : SettingRow) (rows : List SettingRow) → 0 < length (rows_of (string_bytes row.key) (row ∷ rows))
has_one row rows =
    let here : is_of (string_bytes row.key) row ≡ true = of_its_key (string_bytes row.key) row refl in rw here (omega arith)

-- where the two sides have rows of the same keys, none says that there is no value
same_absent : (from to left right : List SettingRow) → AllZip HaveSameKey from to → (are : AreAligned from to left right)
    → (name : List ℕ) → length (rows_of name are.left_absent) ≡ length (rows_of name are.right_absent)
same_absent from to left right alike are name =
    let beside : length (rows_of name left) ≡ length (rows_of name right) = as_many name left right are.keys in
    let lefts : length (rows_of name left) ≡ length (rows_of name from) + length (rows_of name are.left_absent) =
    ap (λ rows. length (rows_of name rows)) are.left_rows ∙ several name from are.left_absent in
    let rights : length (rows_of name right) ≡ length (rows_of name to) + length (rows_of name are.right_absent) =
    ap length (sym (are.right_order.each name)) ∙ several name to are.right_absent in
    let both : length (rows_of name from) ≡ length (rows_of name to) = as_many name from to alike in
    omega (arith, beside, lefts, rights, both)

none_right : (from to left right : List SettingRow) → AllZip HaveSameKey from to → (are : AreAligned from to left right)
    → are.right_absent ≡ []
none_right from to left right alike are = at are.right_absent refl
  where
    at : (absent : List SettingRow) → are.right_absent ≡ absent → absent ≡ []
    at [] is = refl
    at (row ∷ rows) is =
        let name = string_bytes row.key in
        let apart : All (λ (one : SettingRow). has_key are.left_absent (string_bytes one.key) ≡ false) (row ∷ rows) =
        subst (All (λ (one : SettingRow). has_key are.left_absent (string_bytes one.key) ≡ false)) is are.apart in
        let none : length (rows_of name are.left_absent) ≡ 0 = ap length (none_of name are.left_absent (apart 0 row (omega arith))) in
        let some : 0 < length (rows_of name are.right_absent) =
        subst (λ all. 0 < length (rows_of name all)) (sym is) (has_one row rows) in
        absurd (omega (arith, none, some, same_absent from to left right alike are name))

none_left : (from to left right : List SettingRow) → AllZip HaveSameKey from to → (are : AreAligned from to left right)
    → are.left_absent ≡ []
none_left from to left right alike are = at are.left_absent refl
  where
    at : (absent : List SettingRow) → are.left_absent ≡ absent → absent ≡ []
    at [] is = refl
    at (row ∷ rows) is =
        let name = string_bytes row.key in
        let none : length (rows_of name are.right_absent) ≡ 0 =
        ap (λ all. length (rows_of name all)) (none_right from to left right alike are) in
        let some : 0 < length (rows_of name are.left_absent) =
        subst (λ all. 0 < length (rows_of name all)) (sym is) (has_one row rows) in
        absurd (omega (arith, none, some, same_absent from to left right alike are name))

-- heads and tails of lists that have both a head, or neither
tails_of : (b : Bool) (x y : SettingRow) (xs ys : List SettingRow) → cond b (x ∷ xs) xs ≡ cond b (y ∷ ys) ys → xs ≡ ys
tails_of true x y xs ys same = cc
tails_of false x y xs ys same = same

heads_of : (b : Bool) (x y : SettingRow) (xs ys : List SettingRow) → b ≡ true
    → cond b (x ∷ xs) xs ≡ cond b (y ∷ ys) ys → x ≡ y
heads_of true x y xs ys is same = cc
heads_of false x y xs ys is same = absurd (cc)

cons_same : (x y : SettingRow) (xs ys : List SettingRow) → x ≡ y → xs ≡ ys → x ∷ xs ≡ y ∷ ys
cons_same x y xs ys one two = λ i. one i ∷ two i

-- rows of the same keys, with those of each key in the same order, are the same
one_order : (xs ys : List SettingRow) → AllZip HaveSameKey xs ys
    → ((name : List ℕ) → rows_of name xs ≡ rows_of name ys) → xs ≡ ys
one_order [] [] keys order = refl
one_order [] (y ∷ ys) keys order = absurd keys
one_order (x ∷ xs) [] keys order = absurd keys
one_order (x ∷ xs) (y ∷ ys) keys order =
    let same : (name : List ℕ) → cond (is_of name x) (x ∷ rows_of name xs) (rows_of name xs)
    ≡ cond (is_of name x) (y ∷ rows_of name ys) (rows_of name ys) =
    λ name. order name
    ∙ ap (λ k. cond (bytes_eq k name) (y ∷ rows_of name ys) (rows_of name ys)) (sym keys.0) in
    let name = string_bytes x.key in
    cons_same x y xs ys (heads_of (is_of name x) x y (rows_of name xs) (rows_of name ys) (of_its_key name x refl) (same name))
    (one_order xs ys keys.1 (λ other. tails_of (is_of other x) x y (rows_of other xs) (rows_of other ys) (same other)))

-- rows that are one by one alike are put beside each other as they are
aligned_alike : (from to left right : List SettingRow) → AllZip HaveSameKey from to → AreAligned from to left right
    → (left ≡ from) × (right ≡ to)
aligned_alike from to left right alike are =
    let lefts : left ≡ from =
    are.left_rows ∙ ap (λ absent. from ++ absent) (none_left from to left right alike are) ∙ append-nil from in
    let keys : AllZip HaveSameKey right to =
    keys_through from to right alike (subst (λ rows. AllZip HaveSameKey rows right) lefts are.keys) in (
      lefts,
      one_order right to keys (λ name.
          sym (are.right_order.each name)
          ∙ ap (λ absent. rows_of name (to ++ absent)) (none_right from to left right alike are)
          ∙ ap (rows_of name) (append-nil to)),
    )

-- rows that are one by one alike have no changes
pub alike_none : (from to : List SettingRow) (changes : List RowChange) → AllZip AreAlike from to
    → AreKeyedChanges from to changes → changes ≡ []
alike_none from to changes alike are =
    let same : (are.left ≡ from) × (are.right ≡ to) =
    aligned_alike from to are.left are.right (keys_of from to alike) are.aligned in
    are.are_changes
    ∙ (λ i. changed_rows (is_change [] [] false) (map side_row (same.0 i)) (map side_row (same.1 i)))
    ∙ none_change [] [] (map side_row from) (map side_row to) (values_of from to alike)
