-- Items that are right, as more are made.
use Rattle.std.proofs.Common.{◌≡◌, ℕ, zero, suc, ◌+◌, ◌<◌, List, [], ◌∷◌, ◌++◌, length, map, set, get_or, Option, Some, None, IfSome, refl, sym, ap, ◌∙◌, subst, arith, zero-add}
use Rattle.std.specs.List.{between, flat_map}
use Rattle.std.specs.Str.{IsUtf8}
use Rattle.std.proofs.lemmas.List.{append-nil, map-append}
use Rattle.std.proofs.lemmas.Grind.{flat_map-append}
use Rattle.nextest_places.specs.declared.spans.item.Item.{Item}
use Rattle.nextest_places.specs.declared.spans.item.Role.{Role}
use Rattle.nextest_places.specs.declared.spans.item.ValueKind.{ValueKind}
use Rattle.nextest_places.specs.declared.spans.token.Container.{Container}
use Rattle.nextest_places.specs.declared.spans.token.Span.{Span}
use Rattle.nextest_places.specs.declared.spans.token.Token.{Token}
use Rattle.nextest_places.specs.declared.spans.token.TokenKind.{TokenKind}
use Rattle.nextest_places.specs.declared.spans.token.TokenKind.TheVariants as token
use Rattle.nextest_places.specs.Spans.Tokens.{IsRightKind, IsTaken, IsToken, at, text_at}
use Rattle.nextest_places.specs.Spans.Items.{EachIs, IsItem, IsNamedSort, IsTextAt, KeepsItems, Sort, item_mark, kind_by_sort, kind_sort, mark, marks_by_sort, read_kind, role_sort, token_marks, value}
use Rattle.nextest_places.proofs.spans.Walk.{Walked, walk_skipped, walk_start, walk_token}

-- ---- items in a list

pub item_pushed : (text : List ℕ) (index : ℕ) (items : List Item) (item : Item) → EachIs text index items → IsItem text (index + length items) item
    → EachIs text index (items ++ item ∷ [])
item_pushed text index [] item are is =
    let here : index + length {A = Item} [] ≡ index = omega arith in
    (subst (λ n. IsItem text n item) here is, tt)
item_pushed text index (first ∷ items) item are is =
    let there : index + length (first ∷ items) ≡ suc index + length items = omega arith in
    (are.0, item_pushed text (suc index) items item are.1 (subst (λ n. IsItem text n item) there is))

item_at : (text : List ℕ) (index : ℕ) (items : List Item) (k : ℕ) (d : Item) → EachIs text index items → k < length items
    → IsItem text (index + k) (get_or items k d)
item_at text index [] k d are less = absurd (omega (arith, less))
item_at text index (first ∷ items) zero d are less =
    let here : index ≡ index + 0 = omega arith in
    subst (λ n. IsItem text n first) here are.0
item_at text index (first ∷ items) (suc k) d are less =
    let there : suc index + k ≡ index + suc k = omega arith in
    subst (λ n. IsItem text n (get_or items k d)) there (item_at text (suc index) items k d are.1 (omega (arith, less)))

item_set : (text : List ℕ) (index : ℕ) (items : List Item) (k : ℕ) (item : Item) → EachIs text index items → IsItem text (index + k) item
    → EachIs text index (set items k item)
item_set text index [] k item are is = tt
item_set text index (first ∷ items) zero item are is =
    let here : index + 0 ≡ index = omega arith in
    (subst (λ n. IsItem text n item) here is, are.1)
item_set text index (first ∷ items) (suc k) item are is =
    let there : index + suc k ≡ suc index + k = omega arith in
    (are.0, item_set text (suc index) items k item are.1 (subst (λ n. IsItem text n item) there is))

marks_set : (items : List Item) (k : ℕ) (d item : Item) → item_mark item ≡ item_mark (get_or items k d) → k < length items
    → map item_mark (set items k item) ≡ map item_mark items
marks_set [] k d item same less = absurd (omega (arith, less))
marks_set (first ∷ items) zero d item same less = ap (λ m. m ∷ map item_mark items) same
marks_set (first ∷ items) (suc k) d item same less = ap (λ ms. item_mark first ∷ ms) (marks_set items k d item same (omega (arith, less)))

-- ---- a value that ends elsewhere

mark_kept : (sort : Sort) (c : Container) (a b : Span) → sort ≡ value (Some c) → a.start ≡ b.start → mark sort a ≡ mark sort b
mark_kept sort c a b is same = rw is (ap (λ n. (value (Some c), n, None)) same)

pub kept : (text : List ℕ) (items : List Item) → KeepsItems text items items
kept text items = record { marks = refl; each = λ are. are }

same_at : (items : List Item) (k : ℕ) (d e : Item) → k < length items → get_or items k d ≡ get_or items k e
same_at [] k d e less = absurd (omega (arith, less))
same_at (first ∷ items) zero d e less = refl
same_at (first ∷ items) (suc k) d e less = same_at items k d e (omega (arith, less))

one_at : (items : List Item) (k : ℕ) (x z : Item) → k < length items → x ≡ get_or items k x → z ≡ get_or items k z → x ≡ z
one_at items k x z less x_is z_is = x_is ∙ same_at items k x z less ∙ sym z_is

pub ended : (text : List ℕ) (items : List Item) (k : ℕ) (x y z new : Item) (c : Container) (end : ℕ) (own : List ℕ) (kind : Option ValueKind)
    → k < length items → x ≡ get_or items k x → y ≡ get_or items k y → z ≡ get_or items k z → role_sort x.role ≡ value (Some c)
    → IsTextAt text y.span.start end own → kind ≡ read_kind own
    → new ≡ record { parent = z.parent; role = z.role; span = record { start = y.span.start; end = end }; kind = kind }
    → KeepsItems text items (set items k new)
ended text items k x y z new c end own kind less x_is y_is z_is x_sort own_is kind_is new_is =
    let span : Span = record { start = y.span.start; end = end } in
    let item : Item = record { parent = z.parent; role = z.role; span = span; kind = kind } in
    let sort : role_sort z.role ≡ value (Some c) = subst (λ i. role_sort i.role ≡ value (Some c)) (one_at items k x z less x_is z_is) x_sort in
    let start_is : y.span.start ≡ z.span.start = ap (λ i. i.span.start) (one_at items k y z less y_is z_is) in
    let same : item_mark item ≡ item_mark (get_or items k z) = mark_kept (role_sort z.role) c span z.span sort start_is ∙ ap item_mark z_is in
    rw new_is
    (record {
      marks = marks_set items k z item same less;
      each = λ are.
          let was : IsItem text (0 + k) z = subst (λ i. IsItem text (0 + k) i) (sym z_is) (item_at text 0 items k z are less) in
          let is : IsItem text (0 + k) item =
          record {
            earlier = was.earlier;
            span = own_is.span;
            named = subst (IsNamedSort (text_at text span)) (sym sort) tt;
            kind = kind_is ∙ ap read_kind own_is.is ∙ ap (kind_by_sort (text_at text span)) (sym sort);
          } in
          item_set text 0 items k item are is;
    })

-- ---- what a token begins

right_sort : (text : List ℕ) (kind : TokenKind) → IsRightKind text kind → IfSome (kind_sort kind) (IsNamedSort text)
right_sort text (token.Key name) right = right
right_sort text (token.Dotted name) right = right
right_sort text (token.Open c) right = tt
right_sort text token.String right = tt
right_sort text token.Word right = tt
right_sort text token.TableHeader right = tt
right_sort text token.ElementHeader right = tt
right_sort text (token.Close c) right = tt
right_sort text token.Other right = tt

-- ---- the walk

pub record Itemized (text : List ℕ) (tokens : List Token) (items : List Item) (rest : List ℕ) : Type 0 where
  pub walked : Walked text tokens rest
  pub marks : map item_mark items ≡ flat_map token_marks tokens
  pub each : EachIs text 0 items

pub itemized_start : (text : List ℕ) → IsUtf8 text → Itemized text [] [] text
itemized_start text utf8 = record { walked = walk_start text utf8; marks = refl; each = tt }

pub itemized_skipped : (text rest behind : List ℕ) (tokens : List Token) (items : List Item) → Itemized text tokens items rest
    → IsTaken text rest None behind → Itemized text tokens items behind
itemized_skipped text rest behind tokens items i taken = record {
  walked = walk_skipped text rest behind tokens i.walked taken;
  marks = i.marks;
  each = i.each;
}

-- the marks of one more token
pub more_marks : (tokens : List Token) (token : Token) → flat_map token_marks (tokens ++ token ∷ []) ≡ flat_map token_marks tokens ++ token_marks token
more_marks tokens token =
    flat_map-append token_marks tokens (token ∷ []) ∙ ap (λ ms. flat_map token_marks tokens ++ ms) (append-nil (token_marks token))

pub itemized_kept : (text rest behind : List ℕ) (tokens : List Token) (items new : List Item) (token : Token) → Itemized text tokens items rest
    → IsTaken text rest (Some token) behind → kind_sort token.kind ≡ None → KeepsItems text items new
    → Itemized text (tokens ++ token ∷ []) new behind
itemized_kept text rest behind tokens items new token i taken none keeps =
    let no_marks : token_marks token ≡ [] = ap (λ sort. marks_by_sort sort token.span) none in
    record {
      walked = walk_token text rest behind tokens token i.walked taken;
      marks =
          keeps.marks ∙ i.marks ∙ sym (append-nil (flat_map token_marks tokens)) ∙ ap (λ ms. flat_map token_marks tokens ++ ms) (sym no_marks)
          ∙ sym (more_marks tokens token);
      each = keeps.each i.each;
    }

pub itemized_begun : (text rest own behind : List ℕ) (tokens : List Token) (items : List Item) (token : Token) (parent : Option ℕ) (role : Role)
    (kind : Option ValueKind) → Itemized text tokens items rest → IsTaken text rest (Some token) behind → IfSome parent (λ i. i < length items)
    → kind_sort token.kind ≡ Some (role_sort role) → kind ≡ kind_by_sort own (role_sort role) → own ≡ between (at text rest) (at text behind) text
    → Itemized text (tokens ++ token ∷ []) (items ++ record { parent = parent; role = role; span = token.span; kind = kind } ∷ []) behind
itemized_begun text rest own behind tokens items token parent role kind i taken earlier sort kind_is own_was =
    let item : Item = record { parent = parent; role = role; span = token.span; kind = kind } in
    let is : IsToken text token = taken.found.0 in
    let own_is : own ≡ text_at text token.span =
    own_was ∙ sym (ap (λ n. between n token.span.end text) taken.found.1 ∙ ap (λ n. between (at text rest) n text) taken.found.2) in
    let one : token_marks token ≡ item_mark item ∷ [] = ap (λ s. marks_by_sort s token.span) sort in
    let right : IsItem text (0 + length items) item =
    record {
      earlier = subst (λ n. IfSome parent (λ i. i < n)) (sym (zero-add (length items))) earlier;
      span = record { some = is.some; within = is.within; utf8 = is.utf8 };
      named = subst (λ s. IfSome s (IsNamedSort (text_at text token.span))) sort (right_sort (text_at text token.span) token.kind is.right);
      kind = kind_is ∙ ap (λ bytes. kind_by_sort bytes (role_sort role)) own_is;
    } in
    record {
      walked = walk_token text rest behind tokens token i.walked taken;
      marks =
          map-append item_mark items (item ∷ []) ∙ ap (λ ms. ms ++ item_mark item ∷ []) i.marks
          ∙ ap (λ ms. flat_map token_marks tokens ++ ms) (sym one) ∙ sym (more_marks tokens token);
      each = item_pushed text 0 items item i.each right;
    }
