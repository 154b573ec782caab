-- Rows keep the order of those of each key.
use Rattle.std.proofs.Common.{◌≡◌, ◌∙◌, ℕ, ◌<◌, ◌||◌, Bool, true, false, cond, zero, suc, List, [], ◌∷◌, ◌++◌, length, take, get_or, refl, sym, ap, subst, length-take, arith, string_bytes}
use Rattle.std.proofs.lemmas.List.{append-nil, get_or-take}
use Rattle.std.proofs.lemmas.List.Elements.{filter-append}
use Rattle.std.proofs.lemmas.List.Folds.{list_any_none}
use Rattle.std.proofs.lemmas.List.Sums.{fails_before_first}
use Rattle.std.specs.Cmp.Lexicographic.{bytes_decides}
use Rattle.std.specs.List.{position_or_len, remove}
use Rattle.rinqebo_report.specs.declared.report.SettingRow.{SettingRow}
use Rattle.rinqebo_changes.specs.Keyed.{is_of, has_key, rows_of, no_more, with_row, without_row, AreSome, KeepsOrder}

-- a row of a key
pub is_of_key : (name : List ℕ) (row : SettingRow) → is_of name row ≡ true → string_bytes row.key ≡ name
is_of_key name row is = (bytes_decides (string_bytes row.key) name).0 is

pub of_its_key : (name : List ℕ) (row : SettingRow) → string_bytes row.key ≡ name → is_of name row ≡ true
of_its_key name row same = (bytes_decides (string_bytes row.key) name).1 same

neither_left : (p q : Bool) → (p || q) ≡ false → p ≡ false
neither_left true q e = absurd (cc)
neither_left false q e = refl

pub neither_right : (p q : Bool) → (p || q) ≡ false → q ≡ false
neither_right true q e = absurd (cc)
neither_right false q e = e

-- no row before the first one of a key is of it
pub none_before : (name : List ℕ) (rows : List SettingRow) → position_or_len (is_of name) rows < length rows
    → has_key (take (position_or_len (is_of name) rows) rows) name ≡ false
none_before name rows below =
    let first = position_or_len (is_of name) rows in
    list_any_none (is_of name) (take first rows) (λ k d under.
    let lower : k < first = omega (arith, length-take first rows) in
    ap (is_of name) (get_or-take first rows k d lower) ∙ fails_before_first (is_of name) rows k d lower)

-- one element is put before others, of which it has no key
put_before : (p q : Bool) (row first : SettingRow) (old new : List SettingRow) → (p ≡ true → q ≡ true → ⊥)
    → old ≡ cond q (first ∷ new) new
    → cond p (row ∷ old) old ≡ cond q (first ∷ cond p (row ∷ new) new) (cond p (row ∷ new) new)
put_before true true row first old new apart is = absurd (apart refl refl)
put_before true false row first old new apart is = ap (λ rows. row ∷ rows) is
put_before false true row first old new apart is = is
put_before false false row first old new apart is = is

-- the first row of a key is put before all
pub order_of_first : (name : List ℕ) (rows : List SettingRow) (place : ℕ) (row : SettingRow) → place < length rows
    → row ≡ get_or rows place row → string_bytes row.key ≡ name → has_key (take place rows) name ≡ false
    → (other : List ℕ) → rows_of other rows ≡ rows_of other (row ∷ remove rows place)
order_of_first name [] place row below is same none other = absurd (omega arith)
order_of_first name (r ∷ rows) zero row below is same none other = ap (λ one. rows_of other (one ∷ rows)) (sym is)
order_of_first name (r ∷ rows) (suc place) row below is same none other =
    let not_here : is_of name r ≡ false = neither_left (is_of name r) (has_key (take place rows) name) none in
    let later : has_key (take place rows) name ≡ false =
    neither_right (is_of name r) (has_key (take place rows) name) none in
    put_before (is_of other r) (is_of other row) r row (rows_of other rows) (rows_of other (remove rows place))
    (λ p q.
    let here : is_of name r ≡ true =
    of_its_key name r (is_of_key other r p ∙ sym (is_of_key other row q) ∙ same) in
    let no : true ≡ false = sym here ∙ not_here in absurd (cc))
    (order_of_first name rows place row (omega arith) is same later other)

-- some of all rows, in their order
pub some_all : (rows : List SettingRow) → AreSome rows rows
some_all [] = no_more
some_all (r ∷ rows) = with_row (some_all rows)

pub some_trans : {one two three : List SettingRow} → AreSome one two → AreSome two three → AreSome one three
some_trans first no_more = first
some_trans (with_row first) (with_row second) = with_row (some_trans first second)
some_trans (without_row first) (with_row second) = without_row (some_trans first second)
some_trans first (without_row second) = without_row (some_trans first second)

pub some_removed : (rows : List SettingRow) (place : ℕ) → AreSome (remove rows place) rows
some_removed [] zero = no_more
some_removed [] (suc n) = no_more
some_removed (r ∷ rows) zero = without_row (some_all rows)
some_removed (r ∷ rows) (suc n) = with_row (some_removed rows n)

-- lists in the same order
pub order_refl : (rows : List SettingRow) → KeepsOrder rows rows
order_refl rows = record { each = λ name. refl }

-- rows before and behind rows in the same order
pub order_behind : (front old new : List SettingRow) → KeepsOrder old new → KeepsOrder (front ++ old) (front ++ new)
order_behind front old new keeps = record {
  each = λ name.
      filter-append (is_of name) front old ∙ ap (λ rows. rows_of name front ++ rows) (keeps.each name)
      ∙ sym (filter-append (is_of name) front new);
}

pub order_before : (old new back : List SettingRow) → KeepsOrder old new → KeepsOrder (old ++ back) (new ++ back)
order_before old new back keeps = record {
  each = λ name.
      filter-append (is_of name) old back ∙ ap (λ rows. rows ++ rows_of name back) (keeps.each name)
      ∙ sym (filter-append (is_of name) new back);
}

pub order_trans : (one two three : List SettingRow) → KeepsOrder one two → KeepsOrder two three → KeepsOrder one three
order_trans one two three first second = record { each = λ name. first.each name ∙ second.each name }

-- no row is of a key
pub none_of : (name : List ℕ) (rows : List SettingRow) → has_key rows name ≡ false → rows_of name rows ≡ []
none_of name [] none = refl
none_of name (r ∷ rows) none =
    ap (λ b. cond b (r ∷ rows_of name rows) (rows_of name rows))
    (neither_left (is_of name r) (has_key rows name) none)
    ∙ none_of name rows (neither_right (is_of name r) (has_key rows name) none)

-- a row of another key than those of rows goes before them
pub order_to_front : (rows : List SettingRow) (row : SettingRow) → has_key rows (string_bytes row.key) ≡ false
    → KeepsOrder (rows ++ row ∷ []) (row ∷ rows)
order_to_front rows row none = record { each = λ name. at name (is_of name row) refl }
  where
    at : (name : List ℕ) (b : Bool) → is_of name row ≡ b → rows_of name (rows ++ row ∷ []) ≡ rows_of name (row ∷ rows)
    at name true is =
        let nothing : rows_of name rows ≡ [] =
        none_of name rows (subst (λ k. has_key rows k ≡ false) (is_of_key name row is) none) in
        filter-append (is_of name) rows (row ∷ [])
        ∙ (λ i. nothing i ++ cond (is i) (row ∷ []) [])
        ∙ (λ i. cond (sym is i) (row ∷ sym nothing i) (sym nothing i))
    at name false is =
        filter-append (is_of name) rows (row ∷ [])
        ∙ ap (λ b. rows_of name rows ++ cond b (row ∷ []) []) is
        ∙ append-nil (rows_of name rows)
        ∙ ap (λ b. cond b (row ∷ rows_of name rows) (rows_of name rows)) (sym is)
