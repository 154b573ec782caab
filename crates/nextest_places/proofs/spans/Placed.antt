-- Items that stand where they should, as more are made and others end.
use Rattle.std.proofs.Common.{◌≡◌, ◌⊎◌, ◌<◌, ◌≤◌, ℕ, suc, ◌+◌, Bool, true, false, List, [], ◌∷◌, ◌++◌, length, set, Option, Some, None, IfSome, refl, sym, ap, ◌∙◌, subst, arith, append_assoc, length-append, inl, inr}
use Rattle.std.specs.List.{flat_map, slice_get}
use Rattle.std.specs.Option.{option_or}
use Rattle.std.proofs.lemmas.Bool.{cases_order}
use Rattle.std.proofs.lemmas.Grind.{flat_map-append}
use Rattle.std.proofs.lemmas.Option.{none-some, same_Some, slice_get_within}
use Rattle.nextest_places.specs.declared.spans.item.Item.{Item}
use Rattle.nextest_places.specs.declared.spans.token.Container.{Container}
use Rattle.nextest_places.specs.declared.spans.token.Container.TheVariants as container
use Rattle.nextest_places.specs.declared.spans.token.Token.{Token}
use Rattle.nextest_places.specs.declared.spans.token.TokenKind.{TokenKind}
use Rattle.nextest_places.specs.declared.spans.token.TokenKind.TheVariants as kinds
use Rattle.nextest_places.specs.Spans.Items.{Sort, kind_sort, role_sort, token_marks}
use Rattle.nextest_places.specs.Spans.Tokens.{AreTokens}
use Rattle.nextest_places.specs.Spans.Tree.{AreClosed, ArePlaced, Closes, IsInnermost, IsLastHeading, IsOpenAt, IsPlaced, IsRightChild, IsRightEnd, NoneHeads, NoneOpen, first_in, held_in, is_heading, item_count, list_by, list_of, parent_of, part_before}
use Rattle.nextest_places.proofs.spans.Lists.{at_other, at_pushed, at_set, set_cases, split_last}

-- ---- items of which one may end

-- the item is the same, or it is a bracket that stood alone and ends now
pub record Kept (now : ℕ) (a b : Item) : Type 0 where
  pub parent : b.parent ≡ a.parent
  pub role : b.role ≡ a.role
  pub start : b.span.start ≡ a.span.start
  pub end : (b.span.end ≡ a.span.end) ⊎ ((a.span.end ≡ suc a.span.start) × (b.span.end ≡ now))

pub record Grows (now : ℕ) (old new : List Item) : Type 0 where
  pub forth : (i : ℕ) (a : Item) → slice_get old i ≡ Some a → (b : Item) × (slice_get new i ≡ Some b) × Kept now a b
  pub back : (i : ℕ) (b : Item) → i < length old → slice_get new i ≡ Some b → (a : Item) × (slice_get old i ≡ Some a) × Kept now a b

same_item : (now : ℕ) (a : Item) → Kept now a a
same_item now a = record { parent = refl; role = refl; start = refl; end = inl refl }

pub grows_same : (now : ℕ) (items : List Item) → Grows now items items
grows_same now items = record { forth = λ i a at. (a, at, same_item now a); back = λ i b less at. (b, at, same_item now b) }

pub grows_pushed : (now : ℕ) (items : List Item) (x : Item) → Grows now items (items ++ x ∷ [])
grows_pushed now items x = record {
  forth = λ i a at. (a, at_pushed items x i (slice_get_within items i a at) ∙ at, same_item now a);
  back = λ i b less at. (b, sym (at_pushed items x i less) ∙ at, same_item now b);
}

same_or : (i k : ℕ) → (i ≡ k) ⊎ (¬ (i ≡ k))
same_or i k =
    elim (cases_order i k) [
      | inl is ↦ inl is
      | inr is ↦ inr (λ e. elim is [
        | inl less ↦ absurd (omega (arith, less, e))
        | inr more ↦ absurd (omega (arith, more, e))
      ])
    ]

pub grows_set : (now : ℕ) (items : List Item) (k : ℕ) (a z : Item) → slice_get items k ≡ Some a → Kept now a z → Grows now items (set items k z)
grows_set now items k a z at kept = record {
  forth = λ i b here.
      elim (same_or i k) [
        | inl is ↦
            let same : a ≡ b = same_Some a b (sym at ∙ ap (slice_get items) (sym is) ∙ here) in
            (z, ap (slice_get (set items k z)) is ∙ at_set items k z (slice_get_within items k a at), subst (λ x. Kept now x z) same kept)
        | inr isnt ↦ (b, at_other items k i z isnt ∙ here, same_item now b)
      ];
  back = λ i b less here.
      elim (set_cases items k z i b here) [
        | inl was ↦ (b, was.1, same_item now b)
        | inr is ↦ (a, ap (slice_get items) is.0 ∙ at, subst (Kept now a) (sym is.1) kept)
      ];
}

-- ---- what is open, and sections

goes_forth : (now byte s e t f : ℕ) → t ≡ s → (f ≡ e) ⊎ ((e ≡ suc s) × (f ≡ now)) → byte < now → (byte < e) ⊎ (e ≡ suc s) → (byte < f) ⊎ (f ≡ suc t)
goes_forth now byte s e t f start (inl same) less (inl beyond) = inl (omega (arith, same, beyond))
goes_forth now byte s e t f start (inl same) less (inr alone) = inr (omega (arith, start, same, alone))
goes_forth now byte s e t f start (inr ends) less goes = inl (omega (arith, ends.1, less))

goes_back : (now byte s e t f : ℕ) → t ≡ s → (f ≡ e) ⊎ ((e ≡ suc s) × (f ≡ now)) → (byte < f) ⊎ (f ≡ suc t) → (byte < e) ⊎ (e ≡ suc s)
goes_back now byte s e t f start (inl same) (inl beyond) = inl (omega (arith, same, beyond))
goes_back now byte s e t f start (inl same) (inr alone) = inr (omega (arith, start, same, alone))
goes_back now byte s e t f start (inr ends) goes = inr ends.0

open_forth : (now byte : ℕ) (a b : Item) (c : Container) → Kept now a b → byte < now → IsOpenAt a byte c → IsOpenAt b byte c
open_forth now byte a b c kept less o = record {
  holds = ap role_sort kept.role ∙ o.holds;
  begun = omega (arith, kept.start, o.begun);
  goes_on = goes_forth now byte a.span.start a.span.end b.span.start b.span.end kept.start kept.end less o.goes_on;
}

open_back : (now byte : ℕ) (a b : Item) (c : Container) → Kept now a b → IsOpenAt b byte c → IsOpenAt a byte c
open_back now byte a b c kept o = record {
  holds = ap role_sort (sym kept.role) ∙ o.holds;
  begun = omega (arith, kept.start, o.begun);
  goes_on = goes_back now byte a.span.start a.span.end b.span.start b.span.end kept.start kept.end o.goes_on;
}

none_kept : (now : ℕ) (old new : List Item) (low high byte : ℕ) → Grows now old new → high ≤ length old → NoneOpen old low high byte
    → NoneOpen new low high byte
none_kept now old new low high byte g within none i b c le less at o =
    let was = g.back i b (omega (arith, less, within)) at in
    none i was.0 c le less was.1 (open_back now byte was.0 b c was.2 o)

pub innermost_kept : (now : ℕ) (old new : List Item) (count byte : ℕ) (held : Option (ℕ × Container)) → Grows now old new → count ≤ length old
    → byte < now → IsInnermost old count byte held → IsInnermost new count byte held
innermost_kept now old new count byte None g within less is = none_kept now old new 0 count byte g within is
innermost_kept now old new count byte (Some h) g within less is =
    let there = g.forth h.0 is.0 is.2 in
    (there.0, is.1, there.1, open_forth now byte is.0 there.0 h.1 there.2 less is.3, none_kept now old new (suc h.0) count byte g within is.4)

none_heads_kept : (now : ℕ) (old new : List Item) (low high : ℕ) → Grows now old new → high ≤ length old → NoneHeads old low high → NoneHeads new low high
none_heads_kept now old new low high g within none i b le less at =
    let was = g.back i b (omega (arith, less, within)) at in
    ap is_heading was.2.role ∙ none i was.0 le less was.1

pub last_heading_kept : (now : ℕ) (old new : List Item) (low count : ℕ) (section : Option ℕ) → Grows now old new → count ≤ length old
    → IsLastHeading old low count section → IsLastHeading new low count section
last_heading_kept now old new low count None g within is = none_heads_kept now old new low count g within is
last_heading_kept now old new low count (Some i) g within is =
    let there = g.forth i is.0 is.3 in
    (there.0, is.1, is.2, there.1, ap is_heading there.2.role ∙ is.4, none_heads_kept now old new (suc i) count g within is.5)

-- ---- tokens among others

pub record IsWithin (low high : ℕ) (token : Token) : Type 0 where
  pub some : token.span.start < token.span.end
  pub end : token.span.end ≤ high

tokens_rise : (text : List ℕ) (low : ℕ) (tokens : List Token) (high : ℕ) → AreTokens text low tokens high → low ≤ high
tokens_rise text low [] high are = are.order
tokens_rise text low (t ∷ tokens) high are =
    omega (arith, are.0.order, are.1.some, tokens_rise text t.span.end tokens high are.2)

within_tokens : (text : List ℕ) (low : ℕ) (front : List Token) (token : Token) (behind : List Token) (high : ℕ)
    → AreTokens text low (front ++ token ∷ behind) high → IsWithin low high token
within_tokens text low [] token behind high are =
    record { some = are.1.some; end = tokens_rise text token.span.end behind high are.2 }
within_tokens text low (t ∷ front) token behind high are =
    let is = within_tokens text t.span.end front token behind high are.2 in
    record { some = is.some; end = is.end }

pub token_within : (text : List ℕ) (tokens front : List Token) (token : Token) (behind : List Token) (high : ℕ) → AreTokens text 0 tokens high
    → tokens ≡ front ++ token ∷ behind → IsWithin 0 high token
token_within text tokens front token behind high are is =
    within_tokens text 0 front token behind high (subst (λ ts. AreTokens text 0 ts high) is are)

pub count_append : (front behind : List Token) → item_count (front ++ behind) ≡ item_count front + item_count behind
count_append front behind = ap length (flat_map-append token_marks front behind) ∙ length-append (flat_map token_marks front) (flat_map token_marks behind)

pub front_count : (tokens front behind : List Token) → tokens ≡ front ++ behind → item_count front ≤ item_count tokens
front_count tokens front behind is =
    let sum : item_count tokens ≡ item_count front + item_count behind = ap item_count is ∙ count_append front behind in
    omega (arith, sum)

-- ---- places that are kept

child_kept : (now : ℕ) (old new : List Item) (front : List Token) (token : Token) → Grows now old new → token.span.start < now
    → IsRightChild old front token → IsRightChild new front token
child_kept now old new front token g less is =
    let within : item_count front < length old = slice_get_within old (item_count front) is.item is.at in
    let there = g.forth (item_count front) is.item is.at in
    record {
      item = there.0;
      held = is.held;
      section = is.section;
      at = there.1;
      innermost = innermost_kept now old new (item_count front) token.span.start is.held g (omega (arith, within)) less is.innermost;
      heading = (
        is.heading.0,
        is.heading.1,
        last_heading_kept now old new is.heading.0 (item_count front) is.section g (omega (arith, within)) is.heading.2,
      );
      parent =
          there.2.parent ∙ is.parent
          ∙ ap (λ r. parent_of token.kind (is_heading r) (part_before front) is.held is.section) (sym there.2.role);
    }

end_kept : (now : ℕ) (old new : List Item) (front : List Token) (token : Token) (c : Container) → Grows now old new → item_count front ≤ length old
    → token.span.start < token.span.end → token.span.start < now → IsRightEnd old front token c → IsRightEnd new front token c
end_kept now old new front token c g within some less is =
    let there = g.forth is.index is.item is.at in
    let begun : is.item.span.start < token.span.start =
    subst (λ i. i.span.start < token.span.start) (same_Some is.innermost.0 is.item (sym is.innermost.2 ∙ is.at)) is.innermost.3.begun in
    record {
      index = is.index;
      item = there.0;
      at = there.1;
      innermost = innermost_kept now old new (item_count front) token.span.start (Some (is.index, c)) g within less is.innermost;
      end =
          elim there.2.end [
            | inl same ↦ same ∙ is.end
            | inr ends ↦ absurd (omega (arith, ends.0, is.end, begun, some))
          ];
    }

place_kept : (kind : TokenKind) (now : ℕ) (old new : List Item) (front : List Token) (token : Token) → Grows now old new → item_count front ≤ length old
    → token.span.start < token.span.end → token.span.start < now → IsPlaced kind old front token → IsPlaced kind new front token
place_kept kinds.TableHeader now old new front token g within some less is = tt
place_kept kinds.ElementHeader now old new front token g within some less is = tt
place_kept (kinds.Close c) now old new front token g within some less is = end_kept now old new front token c g within some less is
place_kept kinds.Other now old new front token g within some less is = tt
place_kept (kinds.Key name) now old new front token g within some less is = child_kept now old new front token g less is
place_kept (kinds.Dotted name) now old new front token g within some less is = child_kept now old new front token g less is
place_kept (kinds.Open c) now old new front token g within some less is = child_kept now old new front token g less is
place_kept kinds.String now old new front token g within some less is = child_kept now old new front token g less is
place_kept kinds.Word now old new front token g within some less is = child_kept now old new front token g less is

pub placed_kept : (text : List ℕ) (high now : ℕ) (old new : List Item) (tokens : List Token) → Grows now old new → AreTokens text 0 tokens high
    → high ≤ now → item_count tokens ≤ length old → ArePlaced old tokens → ArePlaced new tokens
placed_kept text high now old new tokens g are le count placed front behind token is =
    let w = token_within text tokens front token behind high are is in
    let fewer : item_count front ≤ item_count tokens = front_count tokens front (token ∷ behind) is in
    place_kept token.kind now old new front token g (omega (arith, fewer, count)) w.some (omega (arith, w.some, w.end, le)) (placed front behind token is)

pub placed_more : (items : List Item) (tokens : List Token) (t : Token) → ArePlaced items tokens → IsPlaced t.kind items tokens t
    → ArePlaced items (tokens ++ t ∷ [])
placed_more items tokens t placed here front behind token is =
    elim (split_last tokens front behind t token is) [
      | inl last ↦ subst (λ f. IsPlaced token.kind items f token) last.0 (subst (λ u. IsPlaced u.kind items tokens u) last.1 here)
      | inr before ↦ placed front before.0 token before.1
    ]

-- an item that begins at a token is in the right place
pub child_placed : (kind : TokenKind) (sort : Sort) (items : List Item) (front : List Token) (token : Token) → kind_sort kind ≡ Some sort
    → IsRightChild items front token → IsPlaced kind items front token
child_placed kinds.TableHeader sort items front token is child = tt
child_placed kinds.ElementHeader sort items front token is child = tt
child_placed (kinds.Close c) sort items front token is child = absurd (none-some sort is)
child_placed kinds.Other sort items front token is child = tt
child_placed (kinds.Key name) sort items front token is child = child
child_placed (kinds.Dotted name) sort items front token is child = child
child_placed (kinds.Open c) sort items front token is child = child
child_placed kinds.String sort items front token is child = child
child_placed kinds.Word sort items front token is child = child

-- ---- what is closed

pub closes_more : (tokens : List Token) (t : Token) (c : Container) (end : ℕ) → Closes tokens c end → Closes (tokens ++ t ∷ []) c end
closes_more tokens t c end is = record {
  front = is.front;
  token = is.token;
  behind = is.behind ++ t ∷ [];
  whole = ap (λ ts. ts ++ t ∷ []) is.whole ∙ append_assoc is.front (is.token ∷ is.behind) (t ∷ []);
  kind = is.kind;
  ends = is.ends;
}

pub closed_more : (items : List Item) (tokens : List Token) (t : Token) → AreClosed items tokens → AreClosed items (tokens ++ t ∷ [])
closed_more items tokens t closed i item c at holds =
    elim (closed i item c at holds) [
      | inl alone ↦ inl alone
      | inr is ↦ inr (closes_more tokens t c item.span.end is)
    ]

-- ---- parents

or_low : (index : ℕ) (a b : Option ℕ) → IfSome a (λ i. i < index) → IfSome b (λ i. i < index) → IfSome (option_or a b) (λ i. i < index)
or_low index None b first second = second
or_low index (Some i) b first second = first

held_low : (index : ℕ) (held : Option (ℕ × Container)) (section : Option ℕ) → IfSome held (λ h. h.0 < index) → IfSome section (λ i. i < index)
    → IfSome (held_in held section) (λ i. i < index)
held_low index None section first second = second
held_low index (Some h) section first second = first

first_low : (index : ℕ) (heading : Bool) (held : Option (ℕ × Container)) (section : Option ℕ) → IfSome held (λ h. h.0 < index)
    → IfSome section (λ i. i < index) → IfSome (first_in heading held section) (λ i. i < index)
first_low index true held section first second = tt
first_low index false held section first second = held_low index held section first second

list_by_low : (index : ℕ) (c : Container) (i : ℕ) → i < index → IfSome (list_by c i) (λ i. i < index)
list_by_low index container.List i low = low
list_by_low index container.Table i low = tt

list_low : (index : ℕ) (held : Option (ℕ × Container)) → IfSome held (λ h. h.0 < index) → IfSome (list_of held) (λ i. i < index)
list_low index None low = tt
list_low index (Some h) low = list_by_low index h.1 h.0 low

value_low : (index : ℕ) (before : Option ℕ) (held : Option (ℕ × Container)) (section : Option ℕ) → IfSome before (λ i. i < index)
    → IfSome held (λ h. h.0 < index) → IfSome section (λ i. i < index)
    → IfSome (option_or (list_of held) (option_or before (held_in held section))) (λ i. i < index)
value_low index before held section one two three =
    or_low index (list_of held) (option_or before (held_in held section)) (list_low index held two)
    (or_low index before (held_in held section) one (held_low index held section two three))

pub parent_low : (kind : TokenKind) (index : ℕ) (heading : Bool) (before : Option ℕ) (held : Option (ℕ × Container)) (section : Option ℕ)
    → IfSome before (λ i. i < index) → IfSome held (λ h. h.0 < index) → IfSome section (λ i. i < index)
    → IfSome (parent_of kind heading before held section) (λ i. i < index)
parent_low (kinds.Key name) index heading before held section one two three = first_low index heading held section two three
parent_low (kinds.Dotted name) index heading before held section one two three =
    or_low index before (first_in heading held section) one (first_low index heading held section two three)
parent_low (kinds.Open c) index heading before held section one two three = value_low index before held section one two three
parent_low (kinds.Close c) index heading before held section one two three = value_low index before held section one two three
parent_low kinds.String index heading before held section one two three = value_low index before held section one two three
parent_low kinds.Word index heading before held section one two three = value_low index before held section one two three
parent_low kinds.Other index heading before held section one two three = value_low index before held section one two three
parent_low kinds.TableHeader index heading before held section one two three = value_low index before held section one two three
parent_low kinds.ElementHeader index heading before held section one two three = value_low index before held section one two three
