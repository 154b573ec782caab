-- Rows of two sides that are put beside each other by their keys.
use Rattle.std.proofs.Common.{◌≡◌, ◌∙◌, ℕ, ◌+◌, ◌<◌, ◌≤◌, inl, inr, ◌||◌, Bool, true, false, cond, ltb, List, [], ◌∷◌, ◌++◌, Option, None, Some, MatchOption, length, take, get_or, refl, sym, subst, append_assoc, arith, bytes_eq, string_bytes}
use Rattle.std.proofs.lemmas.Bool.{ltb-true, ltb-false}
use Rattle.std.proofs.lemmas.List.{append-nil}
use Rattle.std.proofs.lemmas.List.Elements.{All-nil, All-cons, All-push, All-weaker, all_zip_more}
use Rattle.std.proofs.lemmas.List.Folds.{list_any_none}
use Rattle.std.proofs.lemmas.List.Sorted.{IsPermutation-refl, IsPermutation-trans, IsPermutation-append_left, IsPermutation-append_right, IsPermutation-remove, IsPermutation-to_front, list_any-IsPermutation}
use Rattle.std.proofs.lemmas.List.Sums.{fails_before_first, passes_at_first}
use Rattle.std.proofs.lemmas.Option.{get_or_from_slice_get, slice_get_read}
use Rattle.std.specs.Cmp.Lexicographic.{bytes_decides}
use Rattle.std.specs.List.{All, AllZip, position_or_len, remove}
use Rattle.std.specs.List.Sorted.{IsPermutation}
use Rattle.rinqebo_report.specs.declared.report.SettingRow.{SettingRow}
use Rattle.rinqebo_changes.specs.Keyed.{is_of, has_key, AreSome, KeepsOrder, HaveSameKey, IsAbsentFor, SaysNothing, IsPlaceOf, IsFound, IsTaken, AreBeside, AreAligned}
use Rattle.rinqebo_changes.proofs.KeyedOrders.{neither_right, none_before, order_before, order_behind, order_of_first, order_refl, order_to_front, order_trans, some_all, some_removed, some_trans}

-- the first row of a key
place_found : (name : List ℕ) (rows : List SettingRow) → position_or_len (is_of name) rows < length rows
    → IsPlaceOf name rows (position_or_len (is_of name) rows)
place_found name rows below = record {
  below = below;
  key = λ row here. (bytes_decides (string_bytes row.key) name).0
      (subst (λ x. is_of name x ≡ true)
      (get_or_from_slice_get rows (position_or_len (is_of name) rows) row row here)
      (passes_at_first (is_of name) rows row below));
  first = none_before name rows below;
}

place_chosen : (name : List ℕ) (rows : List SettingRow) (r : Option ℕ) (b : Bool)
    → ltb (position_or_len (is_of name) rows) (length rows) ≡ b
    → r ≡ cond b (Some (position_or_len (is_of name) rows)) None
    → MatchOption r (has_key rows name ≡ false) (IsPlaceOf name rows)
place_chosen name rows r true is same =
    subst (λ o. MatchOption o (has_key rows name ≡ false) (IsPlaceOf name rows)) (sym same)
    (place_found name rows (ltb-true (position_or_len (is_of name) rows) (length rows) is))
place_chosen name rows r false is same =
    let over : length rows ≤ position_or_len (is_of name) rows =
    ltb-false (position_or_len (is_of name) rows) (length rows) is in
    subst (λ o. MatchOption o (has_key rows name ≡ false) (IsPlaceOf name rows)) (sym same)
    (list_any_none (is_of name) rows (λ k d below. fails_before_first (is_of name) rows k d (omega arith)))

pub place_by : (name : List ℕ) (rows : List SettingRow) (r : Option ℕ)
    → r ≡ cond (ltb (position_or_len (is_of name) rows) (length rows)) (Some (position_or_len (is_of name) rows)) None
    → MatchOption r (has_key rows name ≡ false) (IsPlaceOf name rows)
place_by name rows r e =
    place_chosen name rows r (ltb (position_or_len (is_of name) rows) (length rows)) refl e

-- the row at the place of a key
pub found_at : (name : List ℕ) (rows old : List SettingRow) (place : ℕ) (row : SettingRow) (new : List SettingRow)
    → rows ≡ old → IsPlaceOf name rows place → row ≡ get_or old place row → new ≡ remove old place
    → IsFound name old row new
found_at name rows old place row new same at is left =
    let here : IsPlaceOf name old place = subst (λ rs. IsPlaceOf name rs place) same at in record {
      key = here.key row (slice_get_read old (length old) place row refl here.below is);
      kept = subst (λ rs. IsPermutation old (row ∷ rs)) (sym left) (IsPermutation-remove old place row here.below is);
      order = subst (λ rs. KeepsOrder old (row ∷ rs)) (sym left) (record {
        each = order_of_first name old place row here.below is
            (here.key row (slice_get_read old (length old) place row refl here.below is)) here.first;
      });
      rest = subst (λ rs. AreSome rs old) (sym left) (some_removed old place);
    }

-- no row is put beside none
pub beside_none : (to : List SettingRow) → AreBeside to [] [] to
beside_none to = record {
  absent = [];
  nothing = All-nil SaysNothing;
  kept = subst (λ rs. IsPermutation rs to) (sym (append-nil to)) (IsPermutation-refl to);
  order = subst (λ rs. KeepsOrder rs to) (sym (append-nil to)) (order_refl to);
  keys = tt;
  apart = All-nil (λ row. has_key to (string_bytes row.key) ≡ false);
  left = some_all to;
}

-- rows of a key are among those that one was taken out of
still_none : (name : List ℕ) (old : List SettingRow) (row : SettingRow) (new : List SettingRow)
    → IsPermutation old (row ∷ new) → has_key old name ≡ false → has_key new name ≡ false
still_none name old row new kept none =
    neither_right (is_of name row) (has_key new name)
    (sym (list_any-IsPermutation (is_of name) old (row ∷ new) kept) ∙ none)

-- one more row is put beside one
pub beside_more : (to from right rest new : List SettingRow) (i : ℕ) (row given : SettingRow) → i < length from
    → row ≡ get_or from i row → AreBeside to (take i from) right rest → IsTaken (string_bytes row.key) rest given new
    → AreBeside to (take (i + 1) from) (right ++ given ∷ []) new
beside_more to from right rest new i row given lt is are (inl found) = record {
  absent = are.absent;
  nothing = are.nothing;
  kept = IsPermutation-trans (to ++ are.absent) (right ++ rest) ((right ++ given ∷ []) ++ new) are.kept
      (subst (IsPermutation (right ++ rest)) (sym (append_assoc right (given ∷ []) new))
      (IsPermutation-append_right right rest (given ∷ new) found.kept));
  order = order_trans (to ++ are.absent) (right ++ rest) ((right ++ given ∷ []) ++ new) are.order
      (subst (KeepsOrder (right ++ rest)) (sym (append_assoc right (given ∷ []) new))
      (order_behind right rest (given ∷ new) found.order));
  keys = all_zip_more HaveSameKey from right i row given lt is are.keys (sym found.key);
  apart = All-weaker (λ a. has_key rest (string_bytes a.key) ≡ false) (λ a. has_key new (string_bytes a.key) ≡ false)
      (λ a none. still_none (string_bytes a.key) rest given new found.kept none) are.absent are.apart;
  left = some_trans found.rest are.left;
}
beside_more to from right rest new i row given lt is are (inr missing) =
    let Apart : List SettingRow → SettingRow → Type 0 = λ rs a. has_key rs (string_bytes a.key) ≡ false in
    let none : Apart rest given = subst (λ k. has_key rest k ≡ false) (sym missing.absent.key) missing.none in
    let behind : IsPermutation (rest ++ given ∷ []) (given ∷ rest) = IsPermutation-to_front rest given in
    let one : IsPermutation ((to ++ are.absent) ++ given ∷ []) ((right ++ rest) ++ given ∷ []) =
    IsPermutation-append_left (given ∷ []) (to ++ are.absent) (right ++ rest) are.kept in
    let two : IsPermutation ((right ++ rest) ++ given ∷ []) ((right ++ given ∷ []) ++ rest) =
    subst (λ xs. IsPermutation xs ((right ++ given ∷ []) ++ rest)) (sym (append_assoc right rest (given ∷ [])))
    (subst (IsPermutation (right ++ (rest ++ given ∷ []))) (sym (append_assoc right (given ∷ []) rest))
    (IsPermutation-append_right right (rest ++ given ∷ []) (given ∷ rest) behind)) in
    let first : KeepsOrder ((to ++ are.absent) ++ given ∷ []) ((right ++ rest) ++ given ∷ []) =
    order_before (to ++ are.absent) (right ++ rest) (given ∷ []) are.order in
    let second : KeepsOrder ((right ++ rest) ++ given ∷ []) ((right ++ given ∷ []) ++ rest) =
    subst (λ xs. KeepsOrder xs ((right ++ given ∷ []) ++ rest)) (sym (append_assoc right rest (given ∷ [])))
    (subst (KeepsOrder (right ++ (rest ++ given ∷ []))) (sym (append_assoc right (given ∷ []) rest))
    (order_behind right (rest ++ given ∷ []) (given ∷ rest) (order_to_front rest given none))) in
    record {
      absent = are.absent ++ given ∷ [];
      nothing = All-push SaysNothing are.absent given are.nothing
          (record { value = missing.absent.value; origins = missing.absent.origins });
      kept = subst (λ rs. IsPermutation (to ++ (are.absent ++ given ∷ [])) ((right ++ given ∷ []) ++ rs)) (sym missing.same)
          (subst (λ xs. IsPermutation xs ((right ++ given ∷ []) ++ rest)) (append_assoc to are.absent (given ∷ []))
          (IsPermutation-trans ((to ++ are.absent) ++ given ∷ []) ((right ++ rest) ++ given ∷ [])
          ((right ++ given ∷ []) ++ rest) one two));
      order = subst (λ rs. KeepsOrder (to ++ (are.absent ++ given ∷ [])) ((right ++ given ∷ []) ++ rs)) (sym missing.same)
          (subst (λ xs. KeepsOrder xs ((right ++ given ∷ []) ++ rest)) (append_assoc to are.absent (given ∷ []))
          (order_trans ((to ++ are.absent) ++ given ∷ []) ((right ++ rest) ++ given ∷ [])
          ((right ++ given ∷ []) ++ rest) first second));
      keys = all_zip_more HaveSameKey from right i row given lt is are.keys (sym missing.absent.key);
      apart = subst (λ rs. All (Apart rs) (are.absent ++ given ∷ [])) (sym missing.same)
          (All-push (Apart rest) are.absent given are.apart none);
      left = subst (λ rs. AreSome rs to) (sym missing.same) are.left;
    }

-- two lists beside each other, and two more
zip_behind : {A B : Type 0} (R : A → B → Type 0) (xs us : List A) (ys vs : List B) → AllZip R xs ys → AllZip R us vs
    → AllZip R (xs ++ us) (ys ++ vs)
zip_behind R [] us [] vs one two = two
zip_behind R [] us (y ∷ ys) vs one two = absurd one
zip_behind R (x ∷ xs) us [] vs one two = absurd one
zip_behind R (x ∷ xs) us (y ∷ ys) vs one two = (one.0, zip_behind R xs us ys vs one.1 two)

-- rows that say nothing for others have their keys
absent_keys : (rows absent : List SettingRow) → AllZip IsAbsentFor rows absent → AllZip HaveSameKey absent rows
absent_keys [] [] all = tt
absent_keys [] (a ∷ made) all = absurd all
absent_keys (r ∷ rs) [] all = absurd all
absent_keys (r ∷ rs) (a ∷ made) all = (all.0.key, absent_keys rs made all.1)

absent_nothing : (rows absent : List SettingRow) → AllZip IsAbsentFor rows absent → All SaysNothing absent
absent_nothing [] [] all = All-nil SaysNothing
absent_nothing [] (a ∷ made) all = absurd all
absent_nothing (r ∷ rs) [] all = absurd all
absent_nothing (r ∷ rs) (a ∷ made) all =
    All-cons SaysNothing a made (record { value = all.0.value; origins = all.0.origins }) (absent_nothing rs made all.1)

absent_has : (name : List ℕ) (rows absent : List SettingRow) → AllZip IsAbsentFor rows absent
    → has_key absent name ≡ has_key rows name
absent_has name [] [] all = refl
absent_has name [] (a ∷ made) all = absurd all
absent_has name (r ∷ rs) [] all = absurd all
absent_has name (r ∷ rs) (a ∷ made) all = λ i. bytes_eq (all.0.key i) name || absent_has name rs made all.1 i

-- all rows of two sides are put beside each other
pub aligned_all : (from to right rest absent left all : List SettingRow) → AreBeside to from right rest
    → AllZip IsAbsentFor rest absent → left ≡ from ++ absent → all ≡ right ++ rest → AreAligned from to left all
aligned_all from to right rest absent left all are made lefts rights = record {
  left_absent = absent;
  left_nothing = absent_nothing rest absent made;
  left_rows = lefts;
  right_absent = are.absent;
  right_nothing = are.nothing;
  right_rows = subst (IsPermutation (to ++ are.absent)) (sym rights) are.kept;
  right_order = subst (KeepsOrder (to ++ are.absent)) (sym rights) are.order;
  keys = subst (λ xs. AllZip HaveSameKey xs all) (sym lefts)
      (subst (AllZip HaveSameKey (from ++ absent)) (sym rights)
      (zip_behind HaveSameKey from absent right rest are.keys (absent_keys rest absent made)));
  apart = All-weaker (λ a. has_key rest (string_bytes a.key) ≡ false) (λ a. has_key absent (string_bytes a.key) ≡ false)
      (λ a none. absent_has (string_bytes a.key) rest absent made ∙ none) are.absent are.apart;
  beside = right;
  beside_keys = are.keys;
  alone = rest;
  alone_order = are.left;
  right_parts = rights;
}
