-- Values that are read token by token.
use Rattle.std.proofs.Common.{◌≡◌, ℕ, ◌-◌, ◌<◌, ◌≤◌, List, [], ◌∷◌, ◌++◌, length, Option, Some, None, option_map, option_and_then, refl, sym, ap, ◌∙◌, append-nil, arith}
use Rattle.json.specs.Json as json
use Rattle.json.specs.Json.{parse_map, after_end_array, read_key, items, members, value, if_last}
use Rattle.json.specs.Lex.{tokens}
use Rattle.json.specs.Print.{IsNumber, ArePrintable, print_from}
use Rattle.json.specs.Token.{Token}
use Rattle.json.proofs.Grammar.{items_end, items_more, members_end, members_more, read_key-shorter, value_is, value-begin_object}
use Rattle.json.proofs.Printed.Tokens.{tokens-print}
use Rattle.serde_json.specs.Data.{Data, array, number, object, Items, no_items, item, Members, no_members, put}
use Rattle.serde_json.specs.Read.{converted, of_json, of_items, of_members, number_of, max_depth, read}
use Rattle.serde_json.specs.View.{view, items_view}
use Rattle.serde_json.specs.declared.value.Value.{Value}
use Rattle.filter_inputs.specs.Lists.Tokens.{AreMembersIn, IsValueIn, OpensObject}

abbrev pick : {A : Type 0} → A → Option A → A
pick d None = d
pick d (Some a) = a

same_found : {A B : Type 0} (a : A) (r s : List Token) (x : Option B) (b : B)
    → option_map {U = B × List Token} (λ y. (y, r)) x ≡ Some (b, s) → (r ≡ s) × (x ≡ Some b)
same_found a r s None b e = absurd (cc)
same_found a r s (Some y) b e = let same = ap (pick (y, r)) e in (ap (λ p. p.1) same, ap (λ p. Some p.0) same)

-- what was converted was read
pub converted_some : {A B : Type 0} (f : A → Option B) (o : Option (A × List Token)) (b : B) (r : List Token)
    → converted f o ≡ Some (b, r) → (a : A) × (o ≡ Some (a, r)) × (f a ≡ Some b)
converted_some f None b r e = absurd (cc)
converted_some f (Some p) b r e =
    let both = same_found p.0 p.1 r (f p.0) b e in
    (p.0, ap (λ s. Some (p.0, s)) both.0, both.1)

twice : {A B : Type 0} (g : A → B) (r : List Token) (x : Option A)
    → option_map (λ b. (b, r)) (option_map g x) ≡ parse_map g (option_map (λ a. (a, r)) x)
twice g r None = refl
twice g r (Some a) = refl

pub converted_array : (o : Option (json.Items × List Token))
    → converted of_json (parse_map json.array o) ≡ parse_map array (converted of_items o)
converted_array None = refl
converted_array (Some p) = twice array p.1 (of_items p.0)

pub converted_object : (o : Option (json.Members × List Token))
    → converted of_json (parse_map json.object o) ≡ parse_map object (converted (λ ms. of_members ms no_members) o)
converted_object None = refl
converted_object (Some p) = twice object p.1 (of_members p.0 no_members)

with_item : (j : json.Json) (d : Data) → of_json j ≡ Some d → (o : Option (json.Items × List Token))
    → converted of_items (parse_map (json.item j) o) ≡ parse_map (item d) (converted of_items o)
with_item j d e None = refl
with_item j d e (Some p) = rw e (twice (item d) p.1 (of_items p.0))

with_member : (k : List ℕ) (j : json.Json) (d : Data) (old : Members) → of_json j ≡ Some d
    → (o : Option (json.Members × List Token))
    → converted (λ ms. of_members ms old) (parse_map (json.member k j) o)
    ≡ converted (λ ms. of_members ms (put k d old)) o
with_member k j d old e None = refl
with_member k j d old e (Some p) = rw e

-- ---- numbers

-- the text of a number is read as that number
pub number_read : (text : List ℕ) → IsNumber text → read text ≡ option_map number (number_of text)
unfolding ArePrintable print_from
number_read text is =
    let one : tokens text ≡ Token.number text ∷ [] =
    ap tokens (sym (append-nil text)) ∙ tokens-print (Token.number text ∷ []) (is, tt) in
    ap (λ ts. option_and_then of_json (option_and_then (λ p. if_last p.0 p.1) (value max_depth ts))) one
    ∙ ap (λ o. option_and_then of_json (option_and_then (λ p. if_last p.0 p.1) o))
    (value_is max_depth (Token.number text ∷ []))

-- ---- the items of an array

abbrev pub items_before : List Value → Items → Items
items_before [] rest = rest
items_before (v ∷ vs) rest = item (view v) (items_before vs rest)

pub items_before-no_items : (vs : List Value) → items_before vs no_items ≡ items_view vs
items_before-no_items [] = refl
items_before-no_items (v ∷ vs) = ap (item (view v)) (items_before-no_items vs)

items_push : (vs : List Value) (v : Value) (rest : Items)
    → items_before vs (item (view v) rest) ≡ items_before (vs ++ v ∷ []) rest
items_push [] v rest = refl
items_push (w ∷ vs) v rest = ap (item (view w)) (items_push vs v rest)

one_more_item : (vs : List Value) (v : Value) (r : Option (Items × List Token))
    → parse_map (items_before vs) (parse_map (item (view v)) r) ≡ parse_map (items_before (vs ++ v ∷ [])) r
one_more_item vs v None = refl
one_more_item vs v (Some p) = ap (λ ds. Some (ds, p.1)) (items_push vs v p.0)

none_before : (r : Option (Items × List Token)) → r ≡ parse_map (λ a. a) r
none_before None = refl
none_before (Some p) = refl

-- the values of an array are read up to some tokens
pub record AreItemsRead (depth : ℕ) (all left : List Token) (found : List Value) : Type 0 where
  pub turns : ℕ
  pub enough : length left ≤ turns
  pub same : converted of_items (items (value depth) (length all) all)
      ≡ parse_map (items_before found) (converted of_items (items (value depth) turns left))
  pub shorter : length left ≤ length all

pub no_item_read : (depth : ℕ) (all : List Token) (found : List Value) → found ≡ [] → AreItemsRead depth all all found
no_item_read depth all found none = record {
  turns = length all;
  enough = omega arith;
  same = let o = converted of_items (items (value depth) (length all) all) in
      none_before o ∙ ap (λ vs. parse_map (items_before vs) o) (sym none);
  shorter = omega arith;
}

pub one_item_read : (depth : ℕ) (all left rest : List Token) (found after : List Value) (v : Value)
    → AreItemsRead depth all left found → after_end_array left ≡ None → IsValueIn depth left rest (view v)
    → length rest < length left → after ≡ found ++ v ∷ [] → AreItemsRead depth all rest after
one_item_read depth all left rest found after v are going is less more =
    let j = converted_some of_json (value depth left) (view v) rest is in
    let some : 0 < are.turns = omega (arith, are.enough, less) in
    let turn = ap (converted of_items) (items_more (value depth) are.turns left rest j.0 some going j.1)
    ∙ with_item j.0 (view v) j.2 (items (value depth) (are.turns - 1) rest) in record {
      turns = are.turns - 1;
      enough = omega (arith, are.enough, less);
      same = are.same ∙ ap (parse_map (items_before found)) turn
          ∙ one_more_item found v (converted of_items (items (value depth) (are.turns - 1) rest))
          ∙ ap (λ vs. parse_map (items_before vs)
          (converted of_items (items (value depth) (are.turns - 1) rest))) (sym more);
      shorter = omega (arith, are.shorter, less);
    }

pub items_read : (depth : ℕ) (all left rest : List Token) (found : List Value) → AreItemsRead depth all left found
    → after_end_array left ≡ Some rest
    → converted of_items (items (value depth) (length all) all) ≡ Some (items_view found, rest)
items_read depth all left rest found are over =
    are.same
    ∙ ap (λ o. parse_map (items_before found) (converted of_items o))
    (items_end (value depth) are.turns left rest are.enough over)
    ∙ ap (λ ds. Some (ds, rest)) (items_before-no_items found)

-- ---- the members of an object

-- the members of an object are read up to some tokens
pub record AreMembersRead (depth : ℕ) (all left : List Token) (found : Members) : Type 0 where
  pub turns : ℕ
  pub enough : length left ≤ turns
  pub same : converted (λ ms. of_members ms no_members) (members (value depth) (length all) all)
      ≡ converted (λ ms. of_members ms found) (members (value depth) turns left)
  pub shorter : length left ≤ length all

pub no_member_read : (depth : ℕ) (all : List Token) → AreMembersRead depth all all no_members
no_member_read depth all = record {
  turns = length all;
  enough = omega arith;
  same = refl;
  shorter = omega arith;
}

pub one_member_read : (depth : ℕ) (all left s rest : List Token) (found : Members) (key : List ℕ) (d : Data)
    → AreMembersRead depth all left found → read_key left ≡ Some (Some key, s) → IsValueIn depth s rest d
    → length rest < length s → AreMembersRead depth all rest (put key d found)
one_member_read depth all left s rest found key d are named is less =
    let j = converted_some of_json (value depth s) d rest is in
    let lesser = read_key-shorter left (Some key) s named in
    let some : 0 < are.turns = omega (arith, are.enough, less, lesser) in record {
      turns = are.turns - 1;
      enough = omega (arith, are.enough, less, lesser);
      same = are.same
          ∙ ap (converted (λ ms. of_members ms found))
          (members_more (value depth) are.turns key left s rest j.0 some named j.1)
          ∙ with_member key j.0 d found j.2 (members (value depth) (are.turns - 1) rest);
      shorter = omega (arith, are.shorter, less, lesser);
    }

pub members_read : (depth : ℕ) (all left rest : List Token) (found : Members) → AreMembersRead depth all left found
    → read_key left ≡ Some (None, rest) → AreMembersIn depth all rest found × (length rest < length all)
members_read depth all left rest found are over =
    let lesser = read_key-shorter left None rest over in (
      are.same ∙ ap (converted (λ ms. of_members ms found))
          (members_end (value depth) are.turns left rest are.enough over),
      omega (arith, are.shorter, lesser),
    )

pub object_opens : (depth : ℕ) (tokens rest : List Token) → 0 < depth → tokens ≡ Token.begin_object ∷ rest
    → OpensObject depth (depth - 1) tokens rest
object_opens depth tokens rest some is = record {
  shorter = omega (arith, ap length is);
  is = λ found left are.
      ap (λ ts. converted of_json (value depth ts)) is
      ∙ ap (converted of_json) (value-begin_object depth rest some)
      ∙ converted_object (members (value (depth - 1)) (length rest) rest)
      ∙ ap (parse_map object) are;
}

-- ---- the whole text

abbrev pub whole : Option (json.Json × List Token) → Option Data
whole o = option_and_then of_json (option_and_then (λ p. if_last p.0 p.1) o)

-- a value with nothing behind it is that of the text
pub whole_read : (o : Option (json.Json × List Token)) (d : Data) → converted of_json o ≡ Some (d, [])
    → whole o ≡ Some d
whole_read o d e = let j = converted_some of_json o d [] e in ap whole j.1 ∙ j.2
