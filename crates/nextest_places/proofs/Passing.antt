-- The loops over arrays and inline tables, a turn at a time.
use Rattle.std.proofs.Common.{◌≡◌, ℕ, zero, suc, ◌-◌, ◌<◌, true, false, ◌==◌, List, length, drop, Option, Some, refl, arith}
use Rattle.toml_parser.specs.Lexical.{first, skip_blank}
use Rattle.toml_parser.specs.Strings.{Key}
use Rattle.toml.specs.Parse.{after_element, key_equals}
use Rattle.nextest_places.specs.Expressions.{after_atom, after_items, after_members, after_value}

module _ (after : List ℕ → Option (List ℕ)) where
  pub items_end : (m : ℕ) (text : List ℕ) → 0 < m → (first (skip_blank text) == 93) ≡ true
      → after_items after m text ≡ Some (drop 1 (skip_blank text))
  unfolding after_items
  items_end zero text some closing = absurd (omega (arith, some))
  items_end (suc m) text some closing = rw closing refl

  pub items_more : (m : ℕ) (text rest next : List ℕ) → 0 < m → (first (skip_blank text) == 93) ≡ false
      → after (skip_blank text) ≡ Some rest → after_element 93 rest ≡ Some next
      → after_items after m text ≡ after_items after (m - 1) next
  unfolding after_items
  items_more zero text rest next some other value element = absurd (omega (arith, some))
  items_more (suc m) text rest next some other value element =
      let less : suc m - 1 ≡ m = omega arith in
      rw (other, value, element, less) refl

  pub members_end : (m : ℕ) (text : List ℕ) → 0 < m → (first (skip_blank text) == 125) ≡ true
      → after_members after m text ≡ Some (drop 1 (skip_blank text))
  unfolding after_members
  members_end zero text some closing = absurd (omega (arith, some))
  members_end (suc m) text some closing = rw closing refl

  pub members_more : (m : ℕ) (text rest next : List ℕ) (key : Key × List ℕ) → 0 < m
      → (first (skip_blank text) == 125) ≡ false → key_equals (skip_blank text) ≡ Some key
      → after key.1 ≡ Some rest → after_element 125 rest ≡ Some next
      → after_members after m text ≡ after_members after (m - 1) next
  unfolding after_members
  members_more zero text rest next key some other pair value element = absurd (omega (arith, some))
  members_more (suc m) text rest next key some other pair value element =
      let less : suc m - 1 ≡ m = omega arith in
      rw (other, pair, value, element, less) refl

pub value_atom : (depth : ℕ) (text : List ℕ) → (first text == 91) ≡ false → (first text == 123) ≡ false
    → after_value depth text ≡ after_atom text
unfolding after_value
value_atom zero text a b = refl
value_atom (suc depth) text a b = rw (a, b) refl

pub value_items : (depth : ℕ) (text : List ℕ) → 0 < depth → (first text == 91) ≡ true
    → after_value depth text ≡ after_items (after_value (depth - 1)) (length text) (drop 1 text)
unfolding after_value
value_items zero text some a = absurd (omega (arith, some))
value_items (suc depth) text some a =
    let less : suc depth - 1 ≡ depth = omega arith in
    rw (a, less) refl

pub value_members : (depth : ℕ) (text : List ℕ) → 0 < depth → (first text == 91) ≡ false → (first text == 123) ≡ true
    → after_value depth text ≡ after_members (after_value (depth - 1)) (length text) (drop 1 text)
unfolding after_value
value_members zero text some a b = absurd (omega (arith, some))
value_members (suc depth) text some a b =
    let less : suc depth - 1 ≡ depth = omega arith in
    rw (a, b, less) refl
