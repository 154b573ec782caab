-- What an edit of a document's nodes leaves at each key, and the section after an expression.
use Rattle.std.proofs.Common.{◌≡◌, ℕ, true, false, cond, Ordering, Less, Equal, Greater, nat_cmp, List, [], ◌∷◌, ◌++◌, Option, Some, None, option_map, refl, sym, ap, ◌∙◌, subst, inl, inr, ◌⊎◌}
use Rattle.std.proofs.lemmas.Bool.{cases_Bool, false≢true}
use Rattle.std.proofs.lemmas.Option.{none-some, same_Some}
use Rattle.std.proofs.lemmas.Map.Text.{is_eq-slice_cmp}
use Rattle.std.proofs.lemmas.Slice.Eq.{bytes_eq-Decides}
use Rattle.std.specs.Cmp.Lexicographic.{slice_cmp}
use Rattle.toml.specs.Data.{get_member, same_key}
use Rattle.toml.specs.Tables.{Node, Nodes, no_nodes, node, get_node, insert, replace, close, close_node, along_header, Definition, key_value, std_table, array_table, at_key, put, Document, Expression, define_as, define}

pub cases_ordering : (o : Ordering) → (o ≡ Less) ⊎ ((o ≡ Equal) ⊎ (o ≡ Greater))
cases_ordering Less = inl refl
cases_ordering Equal = inr (inl refl)
cases_ordering Greater = inr (inr refl)

pub map_some : {A B : Type 0} (f : A → B) (o : Option A) (y : B) → option_map f o ≡ Some y
    → (x : A) × (o ≡ Some x) × (f x ≡ y)
map_some f None y h = absurd (none-some y h)
map_some f (Some x) y h = (x, refl, same_Some (f x) y h)

pub get_close : (k : List ℕ) (ns : Nodes) → get_member k (close ns) ≡ option_map close_node (get_node k ns)
get_close k no_nodes = refl
get_close k (node l x ns) =
    elim (cases_ordering (slice_cmp nat_cmp k l)) [
      | inl less ↦ rw less (get_close k ns)
      | inr other ↦ elim other [
        | inl tie ↦ rw tie refl
        | inr more ↦ rw more (get_close k ns)
      ]
    ]

pub same_bytes : (j k : List ℕ) → same_key j k ≡ true → j ≡ k
same_bytes j k at = (bytes_eq-Decides j k).0 (sym (is_eq-slice_cmp j k) ∙ at)

key_same : (j k l : List ℕ) → same_key j k ≡ true → same_key j l ≡ true → same_key k l ≡ true
key_same j k l one two =
    let is : j ≡ k = same_bytes j k one in
    subst (λ i. same_key i l ≡ true) is two

away : (j k l : List ℕ) → same_key j l ≡ true → same_key k l ≡ false → same_key j k ≡ false
away j k l here other =
    elim (cases_Bool (same_key j k)) [
      | inl same ↦ absurd (false≢true (sym other ∙ key_same j k l same here))
      | inr apart ↦ apart
    ]

pub get_insert : (j k : List ℕ) (x : Node) (ns : Nodes) → get_node k ns ≡ None
    → get_node j (insert k x ns) ≡ cond (same_key j k) (Some x) (get_node j ns)
get_insert j k x no_nodes none = refl
get_insert j k x (node l y ns) none =
    elim (cases_ordering (slice_cmp nat_cmp k l)) [
      | inl less ↦ rw less refl
      | inr other ↦ elim other [
        | inl tie ↦ let some = rw tie at none in absurd (none-some y (sym some))
        | inr more ↦
            let apart : same_key k l ≡ false = rw more refl in
            rw more (elim (cases_Bool (same_key j l)) [
              | inl here ↦ rw (here, away j k l here apart) refl
              | inr there ↦ rw there (get_insert j k x ns (rw more at none))
            ])
      ]
    ]

pub get_replace : (j k : List ℕ) (y : Node) (ns : Nodes) (x : Node) → get_node k ns ≡ Some x
    → get_node j (replace k y ns) ≡ cond (same_key j k) (Some y) (get_node j ns)
get_replace j k y no_nodes x found = absurd (none-some x found)
get_replace j k y (node l z ns) x found =
    elim (cases_Bool (same_key k l)) [
      | inl same ↦
          let is : k ≡ l = same_bytes k l same in
          let keys : same_key j k ≡ same_key j l = ap (same_key j) is in
          rw (same, keys) (elim (cases_Bool (same_key j l)) [
            | inl here ↦ rw here refl
            | inr there ↦ rw there refl
          ])
      | inr other ↦ rw other (elim (cases_Bool (same_key j l)) [
        | inl here ↦ rw (here, away j k l here other) refl
        | inr there ↦ rw there (get_replace j k y ns x (rw other at found))
      ])
    ]

-- the section after an expression
abbrev pub section_after : List (List ℕ) → List (List ℕ) × List ℕ → Definition → List (List ℕ)
section_after section key (key_value d) = section
section_after section key what = key.0 ++ key.1 ∷ []

define_as_section : (doc next : Document) (key : List (List ℕ) × List ℕ) (what : Definition)
    → define_as doc key what ≡ Some next → next.1 ≡ section_after doc.1 key what
define_as_section doc next key (key_value d) h =
    let (root, made, is) = map_some (λ root. (root, doc.1)) (along_header doc.1 (put key d) doc.0) next h in
    ap (λ m. m.1) (sym is)
define_as_section doc next key std_table h =
    let (root, made, is) = map_some (λ root. (root, key.0 ++ key.1 ∷ []))
    (along_header key.0 (at_key key.1 std_table) doc.0) next h in
    ap (λ m. m.1) (sym is)
define_as_section doc next key array_table h =
    let (root, made, is) = map_some (λ root. (root, key.0 ++ key.1 ∷ []))
    (along_header key.0 (at_key key.1 array_table) doc.0) next h in
    ap (λ m. m.1) (sym is)

pub define_section : (doc next : Document) (e : Expression) → define doc e ≡ Some next
    → next.1 ≡ section_after doc.1 e.0 e.1
unfolding define
define_section doc next e h = define_as_section doc next e.0 e.1 h
