-- What a longer document reads of some lines is read of them alone, where what follows it is known.
use Rattle.std.proofs.Common.{◌≡◌, ◌⊎◌, ℕ, zero, suc, Bool, true, false, cond, ◌==◌, List, [], drop, slice_index, length, Option, Some, None, option_map, option_and_then, refl, sym, ap, ◌∙◌, subst, inl, inr, arith}
use Rattle.std.proofs.lemmas.Bool.{cases_Bool}
use Rattle.std.proofs.lemmas.Bool.Decides.{nat_tests}
use Rattle.std.proofs.lemmas.Option.{none-some, same_Some}
use Rattle.toml_parser.specs.Lexical.{Read, first, skip_blank, skip_ws}
use Rattle.toml_parser.specs.Numbers.{unquoted, word_len}
use Rattle.toml_parser.specs.Strings.{Key}
use Rattle.toml.specs.Data.{Data, Items, no_items, Members, array, table, push_item}
use Rattle.toml.specs.Tables.{Nodes, no_nodes, close, Definition, key_value, std_table, array_table, Expression, put}
use Rattle.toml.specs.Parse.{after_byte, after_element, atom, ends_line, expression, header_key, items, key_equals, keyval, line, members, read_map, val}
use Rattle.nextest_places.specs.Expressions.{after_atom, after_items, after_members, after_value, key_of}
use Rattle.nextest_places.proofs.GoesOn.{GoesOn, first_same, after_first, skip_grown, skip_ws_grown}
use Rattle.nextest_places.proofs.Edits.{map_some}
use Rattle.nextest_places.proofs.Options.{bind_some, kept_same, rest_same}
use Rattle.nextest_places.proofs.Values.{atom_keeps, element_kept, ends_same, expression_kept, key_equals_end, key_equals_kept}

-- what is read of a text of whole lines is what is read of one that goes on, where the rest is known
record Tells (read : List ℕ → Read Data) (after : List ℕ → Option (List ℕ)) : Type 0 where
  told : {behind : List ℕ} → (x y rest : List ℕ) → GoesOn behind x y → after x ≡ Some rest
      → (p : Data × List ℕ) → read y ≡ Some p → (read x ≡ Some (p.0, rest)) × GoesOn behind rest p.1
  over : after [] ≡ None

module _ (read : List ℕ → Read Data) (after : List ℕ → Option (List ℕ)) (t : Tells read after) where
  items_told : {behind : List ℕ} → (n m : ℕ) (found : Items) (x y rest : List ℕ) → GoesOn behind x y
      → after_items after n x ≡ Some rest → (p : Items × List ℕ) → items read m found y ≡ Some p
      → (items read n found x ≡ Some (p.0, rest)) × GoesOn behind rest p.1
  unfolding items after_items
  items_told zero m found x y rest g a p b = absurd (none-some rest a)
  items_told (suc n) zero found x y rest g a p b = absurd (none-some p b)
  items_told (suc n) (suc m) found x y rest g a p b =
      elim (skip_grown true x y g false) [
        | inl over ↦ absurd (none-some rest (rw (over, t.over) at a))
        | inr more ↦
            let s = skip_blank x in
            let u = skip_blank y in
            let same = first_same s u more in
            elim (cases_Bool (first s == 93)) [
              | inl closing ↦
                  let no_newline : (first s == 10) ≡ false = grind (arith, nat_tests) in
                  let one : drop 1 s ≡ rest = same_Some (drop 1 s) rest (rw closing at a) in
                  let two : (found, drop 1 u) ≡ p = same_Some (found, drop 1 u) p (rw (← same, closing) at b) in
                  rw (closing, ← two, ← one) (refl, after_first s u more no_newline)
              | inr other ↦
                  let (r, value_is, a2) = bind_some (after s)
                  (λ r. option_and_then (after_items after n) (after_element 93 r)) rest (rw other at a) in
                  let (q, element_is, a3) = bind_some (after_element 93 r) (after_items after n) rest a2 in
                  let (v, long_is, b2) = bind_some (read u)
                  (λ v. option_and_then (items read m (push_item found v.0)) (after_element 93 v.1)) p
                  (rw (← same, other) at b) in
                  let (w, element_long, b3) = bind_some (after_element 93 v.1) (items read m (push_item found v.0))
                  p b2 in
                  let (here, on) = t.told s u r more value_is v long_is in
                  let next = rest_same _ (after_element 93 r) (after_element 93 v.1) q w
                  (element_kept 93 r v.1 refl on) element_is element_long in
                  let (all, last) = items_told n m (push_item found v.0) q w rest next a3 p b3 in
                  (rw (other, here, element_is) all, last)
            ]
      ]

  members_told : {behind : List ℕ} → (n m : ℕ) (found : Nodes) (x y rest : List ℕ) → GoesOn behind x y
      → after_members after n x ≡ Some rest → (p : Members × List ℕ) → members read m found y ≡ Some p
      → (members read n found x ≡ Some (p.0, rest)) × GoesOn behind rest p.1
  unfolding members after_members
  members_told zero m found x y rest g a p b = absurd (none-some rest a)
  members_told (suc n) zero found x y rest g a p b = absurd (none-some p b)
  members_told (suc n) (suc m) found x y rest g a p b =
      elim (skip_grown true x y g false) [
        | inl over ↦ absurd (none-some rest (rw (over, key_equals_end) at a))
        | inr goes ↦
            let s = skip_blank x in
            let u = skip_blank y in
            let same = first_same s u goes in
            elim (cases_Bool (first s == 125)) [
              | inl closing ↦
                  let no_newline : (first s == 10) ≡ false = grind (arith, nat_tests) in
                  let one : drop 1 s ≡ rest = same_Some (drop 1 s) rest (rw closing at a) in
                  let two : (close found, drop 1 u) ≡ p =
                  same_Some (close found, drop 1 u) p (rw (← same, closing) at b) in
                  rw (closing, ← two, ← one) (refl, after_first s u goes no_newline)
              | inr other ↦
                  let (k, key_is, a2) = bind_some (key_equals s) (λ k. option_and_then
                  (λ r. option_and_then (after_members after n) (after_element 125 r)) (after k.1)) rest
                  (rw other at a) in
                  let (r, value_is, a3) = bind_some (after k.1)
                  (λ r. option_and_then (after_members after n) (after_element 125 r)) rest a2 in
                  let (q, element_is, a4) = bind_some (after_element 125 r) (after_members after n) rest a3 in
                  let (e, pair_is, b2) = bind_some (keyval read u) (λ e. option_and_then
                  (λ more. option_and_then (members read m more) (after_element 125 e.1)) (put e.0.0 e.0.1 found)) p
                  (rw (← same, other) at b) in
                  let (l, key_long, c2) = bind_some (key_equals u) (λ k. read_map (λ d. (k.0, d)) (read k.1)) e
                  pair_is in
                  let (v, long_is, made) = map_some (λ w. ((l.0, w.0), w.1)) (read l.1) e c2 in
                  let (more, put_is, b3) = bind_some (put e.0.0 e.0.1 found)
                  (λ more. option_and_then (members read m more) (after_element 125 e.1)) p b2 in
                  let (w, element_long, b4) = bind_some (after_element 125 e.1) (members read m more) p b3 in
                  let (keys, key_on) = kept_same _ (key_equals s) (key_equals u) k l (key_equals_kept s u goes)
                  key_is key_long in
                  let (here, on) = t.told k.1 l.1 r key_on value_is v long_is in
                  let next = rest_same _ (after_element 125 r) (after_element 125 v.1) q w
                  (element_kept 125 r v.1 refl on) element_is
                  (ap (λ t. after_element 125 t.1) made ∙ element_long) in
                  let edit : put k.0 v.0 found ≡ Some more =
                  ap (λ j. put j v.0 found) keys ∙ ap (λ t. put t.0.0 t.0.1 found) made ∙ put_is in
                  let (all, last) = members_told n m more q w rest next a4 p b4 in
                  (rw (other, key_is, here, edit, element_is) all, last)
            ]
      ]

atom_told : {behind : List ℕ} → (x y rest : List ℕ) → GoesOn behind x y → after_atom x ≡ Some rest
    → (p : Data × List ℕ) → atom y ≡ Some p → (atom x ≡ Some (p.0, rest)) × GoesOn behind rest p.1
atom_told {behind} x y rest g a p b =
    let (q, is, rests) = map_some (λ read. read.1) (atom x) rest a in
    let (same, on) = kept_same _ (atom x) (atom y) q p (atom_keeps.kept x y g) is b in (
      is ∙ ap (λ d. Some (d, q.1)) same ∙ ap (λ r. Some (p.0, r)) rests,
      subst (λ r. GoesOn behind r p.1) rests on,
    )

-- a value that is made of what was read
made_told : {behind : List ℕ} → {A : Type 0} (f : A → Data) (o : Read Data) (q : A × List ℕ) (p : Data × List ℕ)
    (rest : List ℕ) → (f q.0, q.1) ≡ p → o ≡ Some (f q.0, rest) → GoesOn behind rest q.1
    → (o ≡ Some (p.0, rest)) × GoesOn behind rest p.1
made_told {behind} f o q p rest made is on = (
  is ∙ ap (λ v. Some (v.0, rest)) made,
  subst (λ v. GoesOn behind rest v.1) made on,
)

atom_tells : Tells atom after_atom
unfolding atom unquoted word_len
atom_tells = record { told = atom_told; over = refl }

-- an array and an inline table, of what is read inside
array_is : (depth : ℕ) (x rest : List ℕ) (inside : Items) → (first x == 91) ≡ true
    → items (val depth) (length x) no_items (drop 1 x) ≡ Some (inside, rest)
    → val (suc depth) x ≡ Some (array inside, rest)
unfolding val
array_is depth x rest inside bracket is = rw (bracket, is) refl

table_is : (depth : ℕ) (x rest : List ℕ) (inside : Members) → (first x == 91) ≡ false → (first x == 123) ≡ true
    → members (val depth) (length x) no_nodes (drop 1 x) ≡ Some (inside, rest)
    → val (suc depth) x ≡ Some (table inside, rest)
unfolding val
table_is depth x rest inside other brace is = rw (other, brace, is) refl

value_tells : (depth : ℕ) → Tells (val depth) (after_value depth)
unfolding val after_value
value_tells zero = atom_tells
value_tells (suc depth) =
    let inner = value_tells depth in
    record {
      told = λ x y rest g a p b.
          let same = first_same x y g in
          elim (cases_Bool (first x == 91)) [
            | inl bracket ↦
                let no_newline : (first x == 10) ≡ false = grind (arith, nat_tests) in
                let (q, long_is, made) = map_some (λ q. (array q.0, q.1))
                (items (val depth) (length y) no_items (drop 1 y)) p (rw (← same, bracket) at b) in
                let (here, on) = items_told (val depth) (after_value depth) inner (length x) (length y) no_items
                (drop 1 x) (drop 1 y) rest (after_first x y g no_newline) (rw bracket at a) q long_is in
                made_told array (val (suc depth) x) q p rest made (array_is depth x rest q.0 bracket here) on
            | inr other ↦ elim (cases_Bool (first x == 123)) [
              | inl brace ↦
                  let no_newline : (first x == 10) ≡ false = grind (arith, nat_tests) in
                  let (q, long_is, made) = map_some (λ q. (table q.0, q.1))
                  (members (val depth) (length y) no_nodes (drop 1 y)) p (rw (← same, other, brace) at b) in
                  let (here, on) = members_told (val depth) (after_value depth) inner (length x) (length y) no_nodes
                  (drop 1 x) (drop 1 y) rest (after_first x y g no_newline) (rw (other, brace) at a) q long_is in
                  made_told table (val (suc depth) x) q p rest made (table_is depth x rest q.0 other brace here) on
              | inr plain ↦ rw (other, plain)
                  (atom_told x y rest g (rw (other, plain) at a) p (rw (← same, other, plain) at b))
            ]
          ];
      over = atom_tells.over;
    }

-- a definition as a header's or as a pair's
abbrev pub IsKind : Bool → Definition → Type 0
IsKind true what = (what ≡ std_table) ⊎ (what ≡ array_table)
IsKind false what = (d : Data) × (what ≡ key_value d)

-- an expression that was read alone
record IsAlone (behind x rest : List ℕ) (key : Key × Bool) (e : Expression × List ℕ) : Type 0 where
  alone : expression x ≡ Some (e.0, rest)
  goes : GoesOn behind rest e.1
  is_key : e.0.0 ≡ key.0
  kind : IsKind key.1 e.0.1

header_alone : {behind : List ℕ} → (x y rest : List ℕ) (key : Key) (what : Definition) → GoesOn behind x y
    → IsKind true what → expression x ≡ Some ((key, what), rest) → (e : Expression × List ℕ)
    → expression y ≡ Some e → IsAlone behind x rest (key, true) e
header_alone x y rest key what g kind here e long =
    let (same, on) = kept_same _ (expression x) (expression y) ((key, what), rest) e (expression_kept x y g) here
    long in
    record {
      alone = here ∙ ap (λ q. Some (q, rest)) same;
      goes = on;
      is_key = sym (ap (λ q. q.0) same);
      kind = subst (λ q. IsKind true q.1) same kind;
    }

pair_alone : {behind : List ℕ} → (x y rest : List ℕ) (k l : Key × List ℕ) → GoesOn behind x y
    → key_equals x ≡ Some k → key_equals y ≡ Some l → after_value 80 k.1 ≡ Some rest → (v : Data × List ℕ)
    → val 80 l.1 ≡ Some v → (first x == 91) ≡ false
    → IsAlone behind x rest (k.0, false) ((l.0, key_value v.0), v.1)
unfolding expression
pair_alone x y rest k l g key_is key_long value_is v long_is no_bracket =
    let (same, key_on) = kept_same _ (key_equals x) (key_equals y) k l (key_equals_kept x y g) key_is key_long in
    let tells = value_tells 80 in
    let (here, on) = tells.told k.1 l.1 rest key_on value_is v long_is in
    record {
      alone = rw (no_bracket, key_is, here, same) refl;
      goes = on;
      is_key = sym same;
      kind = (v.0, refl);
    }

-- a key, whether a header has it, and what follows
abbrev Keyed : Type 0
Keyed = (Key × Bool) × List ℕ

abbrev keyed : Bool → Key → List ℕ → Keyed
keyed h k r = ((k, h), r)

pair_told : {behind : List ℕ} → (x y rest : List ℕ) (key : Key × Bool) → GoesOn behind x y
    → option_and_then (λ k. option_map (keyed false k.0) (after_value 80 k.1)) (key_equals x) ≡ Some (key, rest)
    → (first x == 91) ≡ false → (e : Expression × List ℕ)
    → read_map (λ p. (p.0, key_value p.1)) (keyval (val 80) y) ≡ Some e → IsAlone behind x rest key e
pair_told {behind} x y rest key g a no_bracket e b =
    let (k, key_is, a2) = bind_some (key_equals x)
    (λ k. option_map (keyed false k.0) (after_value 80 k.1)) (key, rest) a in
    let (r, value_is, made) = map_some (keyed false k.0) (after_value 80 k.1) (key, rest) a2 in
    let (p, pair_is, made_e) = map_some (λ p. ((p.0.0, key_value p.0.1), p.1)) (keyval (val 80) y) e b in
    let (l, key_long, b2) = bind_some (key_equals y) (λ k. read_map (λ d. (k.0, d)) (val 80 k.1)) p pair_is in
    let (v, long_is, made_p) = map_some (λ w. ((l.0, w.0), w.1)) (val 80 l.1) p b2 in
    let is_e : ((l.0, key_value v.0), v.1) ≡ e =
    ap (λ p. ((p.0.0, key_value p.0.1), p.1)) made_p ∙ made_e in
    subst (IsAlone behind x rest key) is_e
    (subst (λ t. IsAlone behind x t.1 t.0 ((l.0, key_value v.0), v.1)) made
    (pair_alone x y r k l g key_is key_long value_is v long_is no_bracket))

-- the header of a table in an array, and of a table
double_is : (x : List ℕ) (k : Key × List ℕ) (r : List ℕ) → (first x == 91) ≡ true → (slice_index x 1 == 91) ≡ true
    → header_key (drop 2 x) ≡ Some k → after_byte 93 k.1 ≡ Some r → expression x ≡ Some ((k.0, array_table), r)
unfolding expression
double_is x k r bracket both key_is byte_is = rw (bracket, both, key_is, byte_is) refl

single_is : (x : List ℕ) (k : Key × List ℕ) → (first x == 91) ≡ true → (slice_index x 1 == 91) ≡ false
    → header_key (drop 1 x) ≡ Some k → expression x ≡ Some ((k.0, std_table), k.1)
unfolding expression
single_is x k bracket single key_is = rw (bracket, single, key_is) refl

key_told : {behind : List ℕ} → (x y rest : List ℕ) (key : Key × Bool) → GoesOn behind x y
    → key_of x ≡ Some (key, rest) → (e : Expression × List ℕ) → expression y ≡ Some e → IsAlone behind x rest key e
unfolding key_of expression
key_told {behind} x y rest key g a e b =
    elim (cases_Bool (first x == 91)) [
      | inr pair ↦ pair_told x y rest key g (rw pair at a) pair e (rw (← first_same x y g, pair) at b)
      | inl bracket ↦ elim (cases_Bool (slice_index x 1 == 91)) [
        | inl both ↦
            let (k, key_is, a2) = bind_some (header_key (drop 2 x))
            (λ k. option_map (keyed true k.0) (after_byte 93 k.1)) (key, rest) (rw (bracket, both) at a) in
            let (r, byte_is, made) = map_some (keyed true k.0) (after_byte 93 k.1) (key, rest) a2 in
            subst (λ t. IsAlone behind x t.1 t.0 e) made
            (header_alone x y r k.0 array_table g (inr refl) (double_is x k r bracket both key_is byte_is) e b)
        | inr single ↦
            let (k, key_is, made) = map_some (λ k. keyed true k.0 k.1) (header_key (drop 1 x)) (key, rest)
            (rw (bracket, single) at a) in
            subst (λ t. IsAlone behind x t.1 t.0 e) made
            (header_alone x y k.1 k.0 std_table g (inl refl) (single_is x k bracket single key_is) e b)
      ]
    ]

ends_of : (o : Read Expression) (e : Expression × List ℕ)
    → option_and_then (λ p. cond (ends_line (skip_ws p.1)) (Some p) None) o ≡ Some e
    → (o ≡ Some e) × (ends_line (skip_ws e.1) ≡ true)
ends_of None e h = absurd (none-some e h)
ends_of (Some p) e h =
    elim (cases_Bool (ends_line (skip_ws p.1))) [
      | inl ends ↦
          let is : p ≡ e = same_Some p e (rw ends at h) in
          (ap Some is, subst (λ q. ends_line (skip_ws q.1) ≡ true) is ends)
      | inr goes ↦ absurd (none-some e (rw goes at h))
    ]

-- the line of an expression, of which the key was read, alone
pub record IsLine (x rest : List ℕ) (key : Key × Bool) (e : Expression) : Type 0 where
  pub alone : line x ≡ Some (e, rest)
  pub is_key : e.0 ≡ key.0
  pub kind : IsKind key.1 e.1

pub line_told : {behind : List ℕ} → (x y rest : List ℕ) (key : Key × Bool) → GoesOn behind x y
    → key_of x ≡ Some (key, rest) → (e : Expression × List ℕ) → line y ≡ Some e → IsLine x rest key e.0
unfolding line
line_told x y rest key g a e b =
    let (long, ends) = ends_of (expression y) e b in
    let told = key_told x y rest key g a e long in
    let here : ends_line (skip_ws rest) ≡ true =
    ends_same (skip_ws rest) (skip_ws e.1) (skip_ws_grown rest e.1 told.goes) ∙ ends in
    record { alone = rw (told.alone, here) refl; is_key = told.is_key; kind = told.kind }

pub key_of_end : (key : (Key × Bool) × List ℕ) → key_of [] ≡ Some key → ⊥
unfolding key_of
key_of_end key h = none-some key (rw key_equals_end at h)
