-- Values, and the lines of a document.
use Rattle.std.proofs.Common.{◌≡◌, ℕ, zero, suc, ◌≤◌, true, false, cond, ◌==◌, List, [], length, drop, slice_index, Option, Some, None, option_map, option_and_then, refl, inl, inr, arith}
use Rattle.std.proofs.lemmas.Bool.{cases_Bool, true≢false}
use Rattle.std.proofs.lemmas.Bool.Decides.{nat_tests}
use Rattle.toml_parser.specs.Lexical.{Read, first, skip_ws, skip_blank}
use Rattle.toml_parser.specs.Strings.{key, key_after, simple_key, quoted, starts_string}
use Rattle.toml_parser.specs.Numbers.{unquoted, word_len}
use Rattle.toml.specs.Data.{Data, string, array, table, Items, no_items, push_item}
use Rattle.toml.specs.Tables.{Nodes, no_nodes, put, key_value, std_table, array_table}
use Rattle.toml.specs.Parse.{read_map, after_byte, after_element, key_equals, keyval, items, members, scalar_data, atom, val, header_key, expression, ends_line, line}
use Rattle.nextest_places.proofs.GoesOn.{GoesOn, here, next, first_same, second_same, within, after_first, skip_ws_grown, skip_grown}
use Rattle.nextest_places.proofs.Kept.{Kept, kept_bind, kept_map}
use Rattle.nextest_places.proofs.Texts.{quoted_kept, key_kept}
use Rattle.nextest_places.proofs.Words.{unquoted_kept}

-- the same for a text alone
abbrev pub KeptRest : List ℕ → Option (List ℕ) → Option (List ℕ) → Type 0
KeptRest behind None s = Unit {0}
KeptRest behind (Some x) s = (y : List ℕ) × GoesOn behind x y × (s ≡ Some y)

rest_bind : {behind : List ℕ} → {B : Type 0} (r s : Option (List ℕ)) (f h : List ℕ → Read B)
    → KeptRest behind r s → ((x y : List ℕ) → GoesOn behind x y → Kept behind (f x) (h y))
    → Kept behind (option_and_then f r) (option_and_then h s)
rest_bind None s f h k then = tt
rest_bind (Some x) s f h k then = let (y, g, e) = k in rw e (then x y g)

rest_map : (behind : List ℕ) → {A : Type 0} (v : A) (r s : Option (List ℕ)) → KeptRest behind r s
    → Kept behind (option_map (λ rest. (v, rest)) r) (option_map (λ rest. (v, rest)) s)
rest_map behind v None s k = tt
rest_map behind v (Some x) s k = let (y, g, e) = k in rw e (y, g, refl)

rest_map_ws : (behind : List ℕ) → {A : Type 0} (v : A) (r s : Option (List ℕ)) → KeptRest behind r s
    → Kept behind (option_map (λ rest. (v, skip_ws rest)) r) (option_map (λ rest. (v, skip_ws rest)) s)
rest_map_ws behind v None s k = tt
rest_map_ws behind v (Some x) s k = let (y, g, e) = k in rw e (skip_ws y, skip_ws_grown x y g, refl)

kept_after : (behind : List ℕ) → {A B : Type 0} (o : Option A) (f h : A → Read B)
    → ((v : A) → Kept behind (f v) (h v)) → Kept behind (option_and_then f o) (option_and_then h o)
kept_after behind None f h then = tt
kept_after behind (Some v) f h then = then v

pub byte_kept : {behind : List ℕ} → (byte : ℕ) (x y : List ℕ) → (byte == 10) ≡ false → GoesOn behind x y
    → KeptRest behind (after_byte byte x) (after_byte byte y)
byte_kept byte x y other g =
    rw (← first_same x y g) (elim (cases_Bool (first x == byte)) [
      | inl at ↦
          let no_newline : (first x == 10) ≡ false = grind (arith, nat_tests) in
          rw at (drop 1 y, after_first x y g no_newline, refl)
      | inr none ↦ rw none tt
    ])

pub element_kept : {behind : List ℕ} → (closing : ℕ) (x y : List ℕ) → (0 == closing) ≡ false → GoesOn behind x y
    → KeptRest behind (after_element closing x) (after_element closing y)
unfolding after_element
element_kept closing x y some g =
    elim (skip_grown true x y g false) [
      | inl over ↦ rw (over, some) tt
      | inr rest ↦
          let s = skip_blank x in
          rw (← first_same s (skip_blank y) rest) (elim (cases_Bool (first s == 44)) [
            | inl at ↦
                let no_newline : (first s == 10) ≡ false = grind (arith, nat_tests) in
                rw at (drop 1 (skip_blank y), after_first s (skip_blank y) rest no_newline, refl)
            | inr other ↦ rw other (elim (cases_Bool (first s == closing)) [
              | inl at ↦ rw at (skip_blank y, rest, refl)
              | inr none ↦ rw none tt
            ])
          ])
    ]

pub key_equals_kept : {behind : List ℕ} → (x y : List ℕ) → GoesOn behind x y → Kept behind (key_equals x) (key_equals y)
unfolding key_equals
key_equals_kept x y g =
    kept_bind (key x) (key y) (λ k. option_map (λ rest. (k.0, skip_ws rest)) (after_byte 61 k.1))
    (λ k. option_map (λ rest. (k.0, skip_ws rest)) (after_byte 61 k.1)) (key_kept 80 [] x y g)
    (λ k v w h. rest_map_ws _ k (after_byte 61 v) (after_byte 61 w) (byte_kept 61 v w refl h))

pub key_equals_end : key_equals [] ≡ None
unfolding key_equals key_after simple_key
key_equals_end = refl

-- a reader that keeps, and reads nothing at the end of the text
pub record Keeps {A : Type 0} (read : List ℕ → Read A) : Type 0 where
  pub kept : {behind : List ℕ} → (x y : List ℕ) → GoesOn behind x y → Kept behind (read x) (read y)
  pub over : read [] ≡ None

keyval_keeps : (v : List ℕ → Read Data) → Keeps v → Keeps (keyval v)
keyval_keeps v k = record {
  kept = λ x y g. kept_bind (key_equals x) (key_equals y) (λ e. read_map (λ d. (e.0, d)) (v e.1))
      (λ e. read_map (λ d. (e.0, d)) (v e.1)) (key_equals_kept x y g)
      (λ e a b h. kept_map _ (v a) (v b) (λ d. (e, d)) (k.kept a b h));
  over = rw key_equals_end refl;
}

items_kept : {behind : List ℕ} → (v : List ℕ → Read Data) → Keeps v → (n m : ℕ) (found : Items) (x y : List ℕ)
    → n ≤ m → GoesOn behind x y → Kept behind (items v n found x) (items v m found y)
unfolding items
items_kept v k zero m found x y room g = tt
items_kept v k (suc n) zero found x y room g = absurd (omega arith)
items_kept v k (suc n) (suc m) found x y room g =
    elim (skip_grown true x y g false) [
      | inl over ↦ rw (over, k.over) tt
      | inr rest ↦
          let s = skip_blank x in
          let t = skip_blank y in
          rw (← first_same s t rest) (elim (cases_Bool (first s == 93)) [
            | inl at ↦
                let no_newline : (first s == 10) ≡ false = grind (arith, nat_tests) in
                rw at (drop 1 t, after_first s t rest no_newline, refl)
            | inr other ↦ rw other (kept_bind (v s) (v t)
                (λ p. option_and_then (items v n (push_item found p.0)) (after_element 93 p.1))
                (λ p. option_and_then (items v m (push_item found p.0)) (after_element 93 p.1)) (k.kept s t rest)
                (λ d a b h. rest_bind (after_element 93 a) (after_element 93 b)
                (items v n (push_item found d)) (items v m (push_item found d))
                (element_kept 93 a b refl h) (λ p q i. items_kept v k n m (push_item found d) p q (omega arith) i)))
          ])
    ]

members_kept : {behind : List ℕ} → (v : List ℕ → Read Data) → Keeps v
    → (n m : ℕ) (found : Nodes) (x y : List ℕ) → n ≤ m → GoesOn behind x y
    → Kept behind (members v n found x) (members v m found y)
unfolding members
members_kept v k zero m found x y room g = tt
members_kept v k (suc n) zero found x y room g = absurd (omega arith)
members_kept v k (suc n) (suc m) found x y room g =
    let pair = keyval_keeps v k in
    elim (skip_grown true x y g false) [
      | inl over ↦ rw (over, pair.over) tt
      | inr rest ↦
          let s = skip_blank x in
          let t = skip_blank y in
          rw (← first_same s t rest) (elim (cases_Bool (first s == 125)) [
            | inl at ↦
                let no_newline : (first s == 10) ≡ false = grind (arith, nat_tests) in
                rw at (drop 1 t, after_first s t rest no_newline, refl)
            | inr other ↦ rw other (kept_bind (keyval v s) (keyval v t)
                (λ e. option_and_then (λ more. option_and_then (members v n more) (after_element 125 e.1))
                (put e.0.0 e.0.1 found))
                (λ e. option_and_then (λ more. option_and_then (members v m more) (after_element 125 e.1))
                (put e.0.0 e.0.1 found))
                (pair.kept s t rest)
                (λ e a b h. kept_after _ (put e.0 e.1 found) _ _
                (λ more. rest_bind (after_element 125 a) (after_element 125 b) (members v n more)
                (members v m more) (element_kept 125 a b refl h)
                (λ p q i. members_kept v k n m more p q (omega arith) i))))
          ])
    ]

pub atom_keeps : Keeps atom
unfolding atom unquoted word_len
atom_keeps = record {
  kept = λ x y g. rw (← first_same x y g) (elim (cases_Bool (starts_string x)) [
    | inl text ↦ rw text (kept_map _ (quoted x) (quoted y) string (quoted_kept x y g text))
    | inr word ↦ rw word (kept_map _ (unquoted x) (unquoted y) scalar_data (unquoted_kept x y g))
  ]);
  over = refl;
}

val_keeps : (depth : ℕ) → Keeps (val depth)
unfolding val
val_keeps zero = atom_keeps
val_keeps (suc depth) =
    let inner = val_keeps depth in
    record {
      kept = λ x y g. rw (← first_same x y g) (elim (cases_Bool (first x == 91)) [
        | inl at ↦
            let no_newline : (first x == 10) ≡ false = grind (arith, nat_tests) in
            rw at (kept_map _ (items (val depth) (length x) no_items (drop 1 x))
            (items (val depth) (length y) no_items (drop 1 y)) array
            (items_kept (val depth) inner (length x) (length y) no_items (drop 1 x) (drop 1 y)
            (within x y g) (after_first x y g no_newline)))
        | inr other ↦ rw other (elim (cases_Bool (first x == 123)) [
          | inl at ↦
              let no_newline : (first x == 10) ≡ false = grind (arith, nat_tests) in
              rw at (kept_map _ (members (val depth) (length x) no_nodes (drop 1 x))
              (members (val depth) (length y) no_nodes (drop 1 y)) table
              (members_kept (val depth) inner (length x) (length y) no_nodes (drop 1 x) (drop 1 y)
              (within x y g) (after_first x y g no_newline)))
          | inr plain ↦ rw plain (atom_keeps.kept x y g)
        ])
      ]);
      over = atom_keeps.over;
    }

pub header_kept : {behind : List ℕ} → (x y : List ℕ) → GoesOn behind x y → Kept behind (header_key x) (header_key y)
unfolding header_key
header_kept x y g =
    kept_bind (key (skip_ws x)) (key (skip_ws y)) (λ k. option_map (λ rest. (k.0, rest)) (after_byte 93 k.1))
    (λ k. option_map (λ rest. (k.0, rest)) (after_byte 93 k.1)) (key_kept 80 [] _ _ (skip_ws_grown x y g))
    (λ k v w h. rest_map _ k (after_byte 93 v) (after_byte 93 w) (byte_kept 93 v w refl h))

after_two : {behind : List ℕ} → (x y : List ℕ) → GoesOn behind x y → (first x == 10) ≡ false
    → (slice_index x 1 == 10) ≡ false → GoesOn behind (drop 2 x) (drop 2 y)
after_two x y here a b = absurd (true≢false a)
after_two x y (next e xs ys g) a b = after_first xs ys g b

pub expression_kept : {behind : List ℕ} → (x y : List ℕ) → GoesOn behind x y → Kept behind (expression x) (expression y)
unfolding expression
expression_kept x y g =
    rw (← first_same x y g) (elim (cases_Bool (first x == 91)) [
      | inr pair ↦ rw pair (kept_map _ (keyval (val 80) x) (keyval (val 80) y) (λ p. (p.0, key_value p.1))
          ((keyval_keeps (val 80) (val_keeps 80)).kept x y g))
      | inl bracket ↦
          let a : (first x == 10) ≡ false = grind (arith, nat_tests) in
          rw (bracket, ← second_same x y g a) (elim (cases_Bool (slice_index x 1 == 91)) [
            | inl both ↦
                let b : (slice_index x 1 == 10) ≡ false = grind (arith, nat_tests) in
                rw both (kept_bind (header_key (drop 2 x)) (header_key (drop 2 y))
                (λ k. option_map (λ rest. ((k.0, array_table), rest)) (after_byte 93 k.1))
                (λ k. option_map (λ rest. ((k.0, array_table), rest)) (after_byte 93 k.1))
                (header_kept (drop 2 x) (drop 2 y) (after_two x y g a b))
                (λ k v w h. rest_map _ (k, array_table) (after_byte 93 v) (after_byte 93 w)
                (byte_kept 93 v w refl h)))
            | inr one ↦ rw one (kept_map _ (header_key (drop 1 x)) (header_key (drop 1 y))
                (λ k. (k, std_table)) (header_kept (drop 1 x) (drop 1 y) (after_first x y g a)))
          ])
    ])

pub ends_same : {behind : List ℕ} → (x y : List ℕ) → GoesOn behind x y → ends_line x ≡ ends_line y
ends_same x y here = grind (arith, nat_tests)
ends_same x y (next c xs ys g) =
    let a : (suc (length xs) == 0) ≡ false = grind (arith, nat_tests) in
    let b : (suc (length ys) == 0) ≡ false = grind (arith, nat_tests) in
    rw (a, b) refl

pub line_kept : {behind : List ℕ} → (x y : List ℕ) → GoesOn behind x y → Kept behind (line x) (line y)
unfolding line
line_kept x y g =
    kept_bind (expression x) (expression y) (λ e. cond (ends_line (skip_ws e.1)) (Some e) None)
    (λ e. cond (ends_line (skip_ws e.1)) (Some e) None) (expression_kept x y g)
    (λ e v w h. rw (← ends_same (skip_ws v) (skip_ws w) (skip_ws_grown v w h))
    (elim (cases_Bool (ends_line (skip_ws v))) [
      | inl ends ↦ rw ends (w, h, refl)
      | inr more ↦ rw more tt
    ]))
