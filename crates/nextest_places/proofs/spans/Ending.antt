-- An item that ends, or one that does not.
use Rattle.std.proofs.Common.{◌≡◌, ◌<◌, ◌≤◌, ℕ, List, length, set, get_or, Option, Some, refl, sym, ap, ◌∙◌, subst, arith}
use Rattle.std.specs.List.{slice_get}
use Rattle.std.specs.Str.{IsCharBoundary}
use Rattle.std.proofs.lemmas.Option.{get_or_from_slice_get, slice_get_within}
use Rattle.nextest_places.specs.declared.spans.item.Item.{Item}
use Rattle.nextest_places.specs.declared.spans.item.ValueKind.{ValueKind}
use Rattle.nextest_places.specs.declared.spans.token.Container.{Container}
use Rattle.nextest_places.specs.declared.spans.token.Span.{Span}
use Rattle.nextest_places.specs.Spans.Items.{role_sort, value}
use Rattle.nextest_places.specs.Spans.Turns.{Ends}

one_item : (items : List Item) (k : ℕ) (x item : Item) → x ≡ get_or items k x → slice_get items k ≡ Some item → x ≡ item
one_item items k x item is here = is ∙ get_or_from_slice_get items k item x here

abbrev span_to : Item → ℕ → Span
span_to item end = record { start = item.span.start; end = end }

pub ends_at : (text : List ℕ) (items : List Item) (k : ℕ) (y z new : Item) (end : ℕ) (kind : Option ValueKind) → y ≡ get_or items k y → z ≡ get_or items k z
    → new ≡ record { parent = z.parent; role = z.role; span = record { start = y.span.start; end = end }; kind = kind } → Ends text k end items (set items k new)
ends_at text items k y z new end kind y_is z_is new_is item c here holds less first last =
    let same : z ≡ item = one_item items k z item z_is here in (
      new,
      record {
        parent = ap (λ i. i.parent) new_is ∙ ap (λ i. i.parent) same;
        role = ap (λ i. i.role) new_is ∙ ap (λ i. i.role) same;
        span =
            ap (λ i. i.span) new_is ∙ ap (λ i. span_to i end) (one_item items k y item y_is here);
      },
      refl,
    )

pub ends_nothing_past : (text : List ℕ) (items : List Item) (k end : ℕ) → length items ≤ k → Ends text k end items items
ends_nothing_past text items k end past item c here holds less first last =
    absurd (omega (arith, past, slice_get_within items k item here))

pub ends_no_list : (text : List ℕ) (items : List Item) (k end : ℕ) (x : Item) → x ≡ get_or items k x
    → ((c : Container) → ¬ (role_sort x.role ≡ value (Some c))) → Ends text k end items items
ends_no_list text items k end x x_is isnt item c here holds less first last =
    absurd (isnt c (ap (λ i. role_sort i.role) (one_item items k x item x_is here) ∙ holds))

pub ends_within_character : (text : List ℕ) (items : List Item) (k end : ℕ) (y : Item) → y ≡ get_or items k y
    → (y.span.start < end → IsCharBoundary text y.span.start → ¬ IsCharBoundary text end) → Ends text k end items items
ends_within_character text items k end y y_is isnt item c here holds less first last =
    let same : item ≡ y = sym (one_item items k y item y_is here) in
    absurd (isnt (subst (λ i. i.span.start < end) same less) (subst (λ i. IsCharBoundary text i.span.start) same first) last)
