-- The items of what was read, with what is open behind it.
use Rattle.std.proofs.Common.{◌≡◌, ◌<◌, ◌≤◌, ◌-◌, ℕ, zero, suc, ◌+◌, Bool, true, false, List, [], ◌∷◌, ◌++◌, length, map, set, get_or, drop, Option, Some, None, IfSome, refl, sym, ap, ◌∙◌, subst, arith, append_assoc, cond, length-append, length-drop, zero-add, inl, inr}
use Rattle.std.specs.List.{AllByRecursion, between, slice_get, slice_index}
use Rattle.std.specs.Str.{IsCharBoundary, IsUtf8}
use Rattle.std.proofs.lemmas.List.{get_or-drop, get_or-take, length-map, length-take-le, map-append, same_from_push}
use Rattle.std.proofs.lemmas.Option.{none-some, same_Some, slice_get_within}
use Rattle.std.proofs.lemmas.Str.{IsCharBoundary-from_drop, IsCharBoundary-start}
use Rattle.nextest_places.specs.declared.spans.item.Item.{Item}
use Rattle.nextest_places.specs.declared.spans.item.Role.{Role}
use Rattle.nextest_places.specs.declared.spans.item.ValueKind.{ValueKind}
use Rattle.nextest_places.specs.declared.spans.token.Container.{Container}
use Rattle.nextest_places.specs.declared.spans.token.Span.{Span}
use Rattle.nextest_places.specs.declared.spans.token.Token.{Token}
use Rattle.nextest_places.specs.declared.spans.token.TokenKind.TheVariants as kinds
use Rattle.nextest_places.specs.Spans.Items.{EachIs, IsItem, IsSpan, KeepsItems, Sort, item_mark, key_part, kind_by_sort, kind_sort, role_sort, value}
use Rattle.nextest_places.specs.Spans.Nesting.{last_of}
use Rattle.nextest_places.specs.Spans.Tokens.{IsTaken, at, text_at}
use Rattle.nextest_places.specs.Spans.Tree.{AreClosed, ArePlaced, IsBegun, IsInnermost, IsLastHeading, IsPlaced, IsRightChild, IsRightEnd, IsSection, NoneHeads, ends_in_part, is_header, is_heading, is_part, item_count, last_before, last_part, parent_of, part_before}
use Rattle.nextest_places.specs.Spans.Turns.{Ends}
use Rattle.nextest_places.proofs.spans.Itemized.{Itemized, itemized_begun, itemized_kept, itemized_skipped, itemized_start, kept}
use Rattle.nextest_places.proofs.spans.Lists.{at_cases, at_pushed, at_seam, at_set, last_cases, set_cases, set_length}
use Rattle.nextest_places.proofs.spans.Open.{AreOpen, EndBy, IsUnclosed, innermost_now, last_is, last_open, open_closed, open_start}
use Rattle.nextest_places.proofs.spans.Placed.{Kept, child_placed, closed_more, front_count, grows_pushed, grows_set, innermost_kept, last_heading_kept, parent_low, placed_kept, placed_more}

pub record Rooted (text : List ℕ) (tokens : List Token) (items : List Item) (rest : List ℕ) (held : List (ℕ × Container)) (key section : Option ℕ) (nest : List Container) : Type 0 where
  pub base : Itemized text tokens items rest
  pub placed : ArePlaced items tokens
  pub closed : AreClosed items tokens
  pub ends : EndBy items (at text rest)
  pub are : AreOpen items 0 held
  pub nested : map (λ (h : ℕ × Container). h.1) held ≡ nest
  pub before : key ≡ part_before tokens
  pub low : IfSome key (λ i. i < length items)
  pub heading : IsSection items tokens (length items) section

-- ---- the start

pub rooted_start : (text : List ℕ) → IsUtf8 text → Rooted text [] [] text [] None None []
rooted_start text utf8 = record {
  base = itemized_start text utf8;
  placed = λ front behind token is.
      let size : 0 ≡ length front + suc (length behind) = ap length is ∙ length-append front (token ∷ behind) in
      absurd (omega (arith, size));
  closed = λ i item c here holds. absurd (none-some item here);
  ends = λ i item here. absurd (none-some item here);
  are = open_start;
  nested = refl;
  before = refl;
  low = tt;
  heading = (0, inl (tt, refl), λ i item le less here. absurd (omega (arith, less)));
}

-- ---- one more token

behind_later : (text rest behind : List ℕ) (token : Option Token) → IsTaken text rest token behind → at text rest ≤ at text behind
behind_later text rest behind token taken = omega (arith, taken.less)

ends_later : (items : List Item) (low high : ℕ) → low ≤ high → EndBy items low → EndBy items high
ends_later items low high le ends i item here = omega (arith, le, ends i item here)

pub counted : (text : List ℕ) (tokens : List Token) (items : List Item) (rest : List ℕ) → Itemized text tokens items rest
    → item_count tokens ≡ length items
counted text tokens items rest i = sym (ap length i.marks) ∙ length-map items item_mark

last_more : (is : Bool) (tokens : List Token) (t : Token) → last_part is (tokens ++ t ∷ []) ≡ is_part t.kind
last_more is [] t = refl
last_more is (x ∷ tokens) t = last_more (is_part x.kind) tokens t

part_more : (tokens : List Token) (t : Token) → ends_in_part (tokens ++ t ∷ []) ≡ is_part t.kind
part_more tokens t = last_more false tokens t

not_part_before : (tokens : List Token) (t : Token) → is_part t.kind ≡ false → None ≡ part_before (tokens ++ t ∷ [])
not_part_before tokens t isnt =
    sym (ap (λ b. last_before b (item_count (tokens ++ t ∷ []))) (part_more tokens t ∙ isnt))

all_more : (xs : List Token) (t : Token) → AllByRecursion (λ u. is_header u.kind ≡ false) xs → is_header t.kind ≡ false
    → AllByRecursion (λ u. is_header u.kind ≡ false) (xs ++ t ∷ [])
all_more [] t all is = (is, tt)
all_more (x ∷ xs) t all is = (all.0, all_more xs t all.1 is)

begun_more : (tokens : List Token) (t : Token) (low : ℕ) → is_header t.kind ≡ false → IsBegun tokens low → IsBegun (tokens ++ t ∷ []) low
begun_more tokens t low isnt (inl none) = inl (all_more tokens t none.0 isnt, none.1)
begun_more tokens t low isnt (inr is) = inr (record {
  front = is.front;
  header = is.header;
  behind = is.behind ++ t ∷ [];
  whole = ap (λ ts. ts ++ t ∷ []) is.whole ∙ append_assoc is.front (is.header ∷ is.behind) (t ∷ []);
  is = is.is;
  last = all_more is.behind t is.last isnt;
  count = is.count;
})

begun_within : (tokens : List Token) (low : ℕ) → IsBegun tokens low → low ≤ item_count tokens
begun_within tokens low (inl none) = omega (arith, none.1)
begun_within tokens low (inr is) = omega (arith, is.count, front_count tokens is.front (is.header ∷ is.behind) is.whole)

-- a header begins a section without parts
pub section_begun : (items : List Item) (tokens : List Token) (t : Token) → is_header t.kind ≡ true → item_count tokens ≡ length items
    → IsSection items (tokens ++ t ∷ []) (length items) None
section_begun items tokens t is count = (
  length items,
  inr (record { front = tokens; header = t; behind = []; whole = refl; is = is; last = tt; count = sym count }),
  λ i item le less here. absurd (omega (arith, le, less)),
)

pub section_more : (items : List Item) (tokens : List Token) (t : Token) (count : ℕ) (section : Option ℕ) → is_header t.kind ≡ false
    → IsSection items tokens count section → IsSection items (tokens ++ t ∷ []) count section
section_more items tokens t count section isnt s = (s.0, begun_more tokens t s.0 isnt s.1, s.2)

none_heads_more : (items : List Item) (x : Item) (low : ℕ) → is_heading x.role ≡ false → NoneHeads items low (length items)
    → NoneHeads (items ++ x ∷ []) low (suc (length items))
none_heads_more items x low isnt none i item le less here =
    elim (at_cases items x i item here) [
      | inl was ↦ none i item le (slice_get_within items i item was) was
      | inr is ↦ ap (λ y. is_heading y.role) is.1 ∙ isnt
    ]

last_heading_more : (items : List Item) (x : Item) (low : ℕ) (section : Option ℕ) → is_heading x.role ≡ false
    → IsLastHeading items low (length items) section → IsLastHeading (items ++ x ∷ []) low (suc (length items)) section
last_heading_more items x low None isnt is = none_heads_more items x low isnt is
last_heading_more items x low (Some i) isnt is =
    (is.0, is.1, omega (arith, is.2), at_pushed items x i is.2 ∙ is.3, is.4, none_heads_more items x (suc i) isnt is.5)

-- an item more, which is a part of a header's key or not
section_pushed : (items : List Item) (tokens : List Token) (x : Item) (section new : Option ℕ) (heading : Bool) → is_heading x.role ≡ heading
    → item_count tokens ≡ length items → new ≡ cond heading (Some (length items)) section
    → IsSection items tokens (length items) section → IsSection (items ++ x ∷ []) tokens (suc (length items)) new
section_pushed items tokens x section new true is count new_is s =
    let le : s.0 ≤ length items = omega (arith, count, begun_within tokens s.0 s.1) in
    subst (IsSection (items ++ x ∷ []) tokens (suc (length items))) (sym new_is) (
      s.0,
      s.1,
      (x, le, omega arith, at_seam items x, is, λ i item more less here. absurd (omega (arith, more, less))),
    )
section_pushed items tokens x section new false is count new_is s =
    subst (IsSection (items ++ x ∷ []) tokens (suc (length items))) (sym new_is)
    (s.0, s.1, last_heading_more items x s.0 section is s.2)

section_low : (items : List Item) (tokens : List Token) (count : ℕ) (section : Option ℕ) → IsSection items tokens count section
    → IfSome section (λ i. i < count)
section_low items tokens count None s = tt
section_low items tokens count (Some i) s = s.2.2

held_low : (items : List Item) (held : List (ℕ × Container)) → AreOpen items 0 held → IfSome (last_of held) (λ h. h.0 < length items)
held_low items held are =
    elim (last_cases held) [
      | inl is ↦ subst (λ hs. IfSome (last_of hs) (λ h. h.0 < length items)) (sym is) tt
      | inr is ↦
          let h = is.1 in
          let last = last_open items 0 is.0 h (subst (AreOpen items 0) is.2 are) in
          subst (λ hs. IfSome (last_of hs) (λ g. g.0 < length items)) (sym is.2)
          (subst (λ o. IfSome o (λ g. g.0 < length items)) (sym (last_is is.0 h)) (slice_get_within items h.0 last.item last.at))
    ]

-- ---- a gap

pub rooted_skipped : (text rest behind : List ℕ) (tokens : List Token) (items : List Item) (held : List (ℕ × Container)) (key section : Option ℕ)
    (nest : List Container) → Rooted text tokens items rest held key section nest → IsTaken text rest None behind
    → Rooted text tokens items behind held key section nest
rooted_skipped text rest behind tokens items held key section nest r taken = record {
  base = itemized_skipped text rest behind tokens items r.base taken;
  placed = r.placed;
  closed = r.closed;
  ends = ends_later items (at text rest) (at text behind) (behind_later text rest behind None taken) r.ends;
  are = r.are;
  nested = r.nested;
  before = r.before;
  low = r.low;
  heading = r.heading;
}

-- ---- a token that is isnt item and closes nothing

pub rooted_passed : (text rest behind : List ℕ) (tokens : List Token) (items : List Item) (token : Token) (held : List (ℕ × Container))
    (key section new : Option ℕ) (nest : List Container) → Rooted text tokens items rest held key section nest → IsTaken text rest (Some token) behind
    → kind_sort token.kind ≡ None → is_part token.kind ≡ false → IsPlaced token.kind items tokens token
    → IsSection items (tokens ++ token ∷ []) (length items) new → Rooted text (tokens ++ token ∷ []) items behind held None new nest
rooted_passed text rest behind tokens items token held key section new nest r taken none isnt place heading = record {
  base = itemized_kept text rest behind tokens items items token r.base taken none (kept text items);
  placed = placed_more items tokens token r.placed place;
  closed = closed_more items tokens token r.closed;
  ends = ends_later items (at text rest) (at text behind) (behind_later text rest behind (Some token) taken) r.ends;
  are = r.are;
  nested = r.nested;
  before = not_part_before tokens token isnt;
  low = tt;
  heading = heading;
}

-- ---- an item

closed_pushed : (items : List Item) (tokens : List Token) (x : Item)
    → ((c : Container) → role_sort x.role ≡ value (Some c) → x.span.end ≡ suc x.span.start) → AreClosed items tokens → AreClosed (items ++ x ∷ []) tokens
closed_pushed items tokens x alone closed i item c here holds =
    elim (at_cases items x i item here) [
      | inl was ↦ closed i item c was holds
      | inr is ↦
          inl (subst (λ y. y.span.end ≡ suc y.span.start) (sym is.1) (alone c (subst (λ y. role_sort y.role ≡ value (Some c)) is.1 holds)))
    ]

part_index : (text : List ℕ) (tokens : List Token) (items new : List Item) (rest : List ℕ) (t : Token) (key : Option ℕ)
    → Itemized text (tokens ++ t ∷ []) new rest → length new ≡ suc (length items) → key ≡ last_before (is_part t.kind) (suc (length items))
    → key ≡ part_before (tokens ++ t ∷ [])
part_index text tokens items new rest t key i size key_is =
    key_is ∙ ap (λ b. last_before b (suc (length items))) (sym (part_more tokens t))
    ∙ ap (last_before (ends_in_part (tokens ++ t ∷ []))) (sym (counted text (tokens ++ t ∷ []) new rest i ∙ size))

low_by : (is : Bool) (count : ℕ) (key : Option ℕ) → key ≡ last_before is (suc count) → IfSome key (λ i. i < suc count)
low_by true count key is = subst (λ k. IfSome k (λ i. i < suc count)) (sym is) (omega arith)
low_by false count key is = subst (λ k. IfSome k (λ i. i < suc count)) (sym is) tt

pub record IsNew (items : List Item) (token : Token) (x : Item) (held : List (ℕ × Container)) (section new : Option ℕ) (held_new : List (ℕ × Container)) (key_new : Option ℕ) : Type 0 where
  pub span : x.span ≡ token.span
  pub alone : (c : Container) → role_sort x.role ≡ value (Some c) → x.span.end ≡ suc x.span.start
  pub are : AreOpen items 0 held → AreOpen (items ++ x ∷ []) 0 held_new
  pub key_is : key_new ≡ last_before (is_part token.kind) (suc (length items))
  pub section_is : new ≡ cond (is_heading x.role) (Some (length items)) section

pub rooted_begun : (text rest own behind : List ℕ) (tokens : List Token) (items : List Item) (token : Token) (parent : Option ℕ) (role : Role)
    (kind : Option ValueKind) (held held_new : List (ℕ × Container)) (key key_new section new : Option ℕ) (nest nest_new : List Container)
    → Rooted text tokens items rest held key section nest → IsTaken text rest (Some token) behind
    → (IfSome (parent_of token.kind (is_heading role) key (last_of held) section) (λ i. i < length items)
    → parent ≡ parent_of token.kind (is_heading role) key (last_of held) section)
    → kind_sort token.kind ≡ Some (role_sort role) → is_header token.kind ≡ false → kind ≡ kind_by_sort own (role_sort role)
    → own ≡ between (at text rest) (at text behind) text
    → IsNew items token (record { parent = parent; role = role; span = token.span; kind = kind }) held section new held_new key_new
    → map (λ (h : ℕ × Container). h.1) held_new ≡ nest_new
    → Rooted text (tokens ++ token ∷ []) (items ++ record { parent = parent; role = role; span = token.span; kind = kind } ∷ []) behind held_new key_new
    new nest_new
rooted_begun text rest own behind tokens items token parent role kind held held_new key key_new section new nest nest_new r taken parent_was sort isnt kind_is
    own_is is nested =
    let x : Item = record { parent = parent; role = role; span = token.span; kind = kind } in
    let wanted : Option ℕ = parent_of token.kind (is_heading role) key (last_of held) section in
    let low : IfSome wanted (λ i. i < length items) =
    parent_low token.kind (length items) (is_heading role) key (last_of held) section r.low (held_low items held r.are)
    (section_low items tokens (length items) section r.heading) in
    let parent_is : parent ≡ wanted = parent_was low in
    let earlier : IfSome parent (λ i. i < length items) = subst (λ p. IfSome p (λ i. i < length items)) (sym parent_is) low in
    let base = itemized_begun text rest own behind tokens items token parent role kind r.base taken earlier sort kind_is own_is in
    let size : length (items ++ x ∷ []) ≡ suc (length items) = omega (arith, length-append items (x ∷ [])) in
    let count : item_count tokens ≡ length items = counted text tokens items rest r.base in
    let start_is : token.span.start ≡ at text rest = taken.found.1 in
    let end_is : token.span.end ≡ at text behind = taken.found.2 in
    let later : at text rest ≤ at text behind = behind_later text rest behind (Some token) taken in
    let some : token.span.start < token.span.end = taken.found.0.some in
    let grows = grows_pushed (at text behind) items x in
    let child : IsRightChild (items ++ x ∷ []) tokens token =
    record {
      item = x;
      held = last_of held;
      section = section;
      at = ap (slice_get (items ++ x ∷ [])) count ∙ at_seam items x;
      innermost =
          subst (λ n. IsInnermost (items ++ x ∷ []) n token.span.start (last_of held)) (sym count)
          (innermost_kept (at text behind) items (items ++ x ∷ []) (length items) token.span.start (last_of held) grows (omega arith)
          (omega (arith, some, end_is))
          (subst (λ n. IsInnermost items (length items) n (last_of held)) (sym start_is) (innermost_now items held (at text rest) r.are r.ends)));
      heading =
          subst (λ n. IsSection (items ++ x ∷ []) tokens n section) (sym count) (
            r.heading.0,
            r.heading.1,
            last_heading_kept (at text behind) items (items ++ x ∷ []) r.heading.0 (length items) section grows (omega arith) r.heading.2,
          );
      parent = parent_is ∙ ap (λ k. parent_of token.kind (is_heading role) k (last_of held) section) r.before;
    } in
    record {
      base = base;
      placed =
          placed_more (items ++ x ∷ []) tokens token
          (placed_kept text (at text rest) (at text behind) items (items ++ x ∷ []) tokens grows r.base.walked.are later (omega (arith, count)) r.placed)
          (child_placed token.kind (role_sort role) (items ++ x ∷ []) tokens token sort child);
      closed = closed_more (items ++ x ∷ []) tokens token (closed_pushed items tokens x is.alone r.closed);
      ends = λ i item here.
          elim (at_cases items x i item here) [
            | inl was ↦ omega (arith, later, r.ends i item was)
            | inr last ↦ subst (λ y. y.span.end ≤ at text behind) (sym last.1) (omega (arith, end_is))
          ];
      are = is.are r.are;
      nested = nested;
      before = part_index text tokens items (items ++ x ∷ []) behind token key_new base size is.key_is;
      low = subst (λ n. IfSome key_new (λ i. i < n)) (sym size) (low_by (is_part token.kind) (length items) key_new is.key_is);
      heading =
          subst (λ n. IsSection (items ++ x ∷ []) (tokens ++ token ∷ []) n new) (sym size)
          (section_more (items ++ x ∷ []) tokens token (suc (length items)) new isnt
          (section_pushed items tokens x section new (is_heading role) refl count is.section_is r.heading));
    }

-- ---- the end of a list or a table

each_at : (text : List ℕ) (index : ℕ) (items : List Item) (k : ℕ) (item : Item) → EachIs text index items → slice_get items k ≡ Some item
    → IsItem text (index + k) item
each_at text index [] k item are here = absurd (none-some item here)
each_at text index (first ∷ items) zero item are here =
    let same : index + 0 ≡ index = omega arith in
    subst (λ n. IsItem text n item) (sym same) (subst (IsItem text index) (same_Some first item here) are.0)
each_at text index (first ∷ items) (suc k) item are here =
    let there : suc index + k ≡ index + suc k = omega arith in
    subst (λ n. IsItem text n item) there (each_at text (suc index) items k item are.1 here)

pub length_between : (text : List ℕ) (low high : ℕ) → high ≤ length text → length (between low high text) ≡ high - low
length_between text low high within =
    let rest : length (drop low text) ≡ length text - low = length-drop low text in
    length-take-le (high - low) (drop low text) (omega (arith, rest, within))

first_between : (text : List ℕ) (low high : ℕ) → low < high → slice_index (between low high text) 0 ≡ slice_index text low
first_between text low high less =
    let some : 0 < high - low = omega (arith, less) in
    let here : low + 0 ≡ low = omega arith in
    get_or-take (high - low) (drop low text) 0 0 some ∙ get_or-drop low text 0 0 ∙ ap (λ n. get_or text n 0) here

abbrev pub sort_inner : Option Container → Sort → Option Container
sort_inner o (value c) = c
sort_inner o (key_part name) = o

abbrev sort_container : Container → Sort → Container
sort_container d (value (Some c)) = c
sort_container d _ = d

same_container : (c d : Container) → value (Some c) ≡ value (Some d) → c ≡ d
same_container c d e = ap (sort_container c) e

start_boundary : (text : List ℕ) (span : Span) → IsSpan text span → IsCharBoundary text span.start
start_boundary text span is =
    let own = IsCharBoundary-start (text_at text span) is.utf8 in
    let size : length (text_at text span) ≡ span.end - span.start = length_between text span.start span.end is.within in
    let first : slice_index (text_at text span) 0 ≡ slice_index text span.start =
    first_between text span.start span.end is.some in (
      omega (arith, is.some, is.within),
      λ less high. subst (λ n. 192 ≤ n) first (own.1 (omega (arith, size, is.some)) (subst (λ n. 128 ≤ n) (sym first) high)),
    )

ended_not : (now : ℕ) (a z : Item) (c : Container) → a.span.end ≡ suc a.span.start → z.span ≡ record { start = a.span.start; end = now } → suc a.span.start < now
    → ¬ IsUnclosed z c
ended_not now a z c alone span less o =
    absurd (omega (arith, ap (λ s. s.start) span, ap (λ s. s.end) span, o.alone, less))

pub rooted_closed : (text rest behind : List ℕ) (tokens : List Token) (items new : List Item) (token : Token) (c : Container) (i : ℕ)
    (held : List (ℕ × Container)) (key section : Option ℕ) (nest : List Container)
    → Rooted text tokens items rest (held ++ (i, c) ∷ []) key section (nest ++ c ∷ []) → IsTaken text rest (Some token) behind
    → token.kind ≡ kinds.Close c → KeepsItems text items new → Ends text i token.span.end items new
    → Rooted text (tokens ++ token ∷ []) new behind held None section nest
rooted_closed text rest behind tokens items new token c i held key section nest r taken kind keeps ends =
    let last = last_open items 0 held (i, c) r.are in
    let a : Item = last.item in
    let is_item : IsItem text i a = subst (λ n. IsItem text n a) (zero-add i) (each_at text 0 items i a r.base.each last.at) in
    let start_is : token.span.start ≡ at text rest = taken.found.1 in
    let end_is : token.span.end ≡ at text behind = taken.found.2 in
    let some : token.span.start < token.span.end = taken.found.0.some in
    let by : a.span.end ≤ at text rest = r.ends i a last.at in
    let begun : a.span.start < token.span.end = omega (arith, last.is.alone, by, start_is, some) in
    let bound : IsCharBoundary text token.span.end =
    subst (IsCharBoundary text) (sym end_is)
    (IsCharBoundary-from_drop text (at text behind) (omega arith) (subst IsUtf8 taken.place.is taken.utf8)) in
    let e = ends a c last.at last.is.holds begun (start_boundary text a.span is_item.span) bound in
    let z : Item = e.0 in
    let made : new ≡ set items i z = e.2 in
    let start_same : z.span.start ≡ a.span.start = ap (λ s. s.start) e.1.span in
    let end_same : z.span.end ≡ token.span.end = ap (λ s. s.end) e.1.span in
    let later : at text rest ≤ at text behind = behind_later text rest behind (Some token) taken in
    let count : item_count tokens ≡ length items = counted text tokens items rest r.base in
    let size : length (set items i z) ≡ length items = set_length items i z in
    let no_sort : kind_sort token.kind ≡ None = ap kind_sort kind in
    let not_part : is_part token.kind ≡ false = ap is_part kind in
    let not_header : is_header token.kind ≡ false = ap is_header kind in
    let within : i < length items = slice_get_within items i a last.at in
    let k : Kept token.span.end a z =
    record { parent = e.1.parent; role = e.1.role; start = start_same; end = inr (last.is.alone, end_same) } in
    let grows = grows_set token.span.end items i a z last.at k in
    let stands : slice_get (set items i z) i ≡ Some z = at_set items i z within in
    let base = itemized_kept text rest behind tokens items new token r.base taken no_sort keeps in
    let place : IsRightEnd (set items i z) tokens token c =
    record {
      index = i;
      item = z;
      at = stands;
      innermost =
          subst (λ n. IsInnermost (set items i z) n token.span.start (Some (i, c))) (sym count)
          (innermost_kept token.span.end items (set items i z) (length items) token.span.start (Some (i, c)) grows (omega arith) some
          (subst (IsInnermost items (length items) token.span.start) (last_is held (i, c))
          (subst (λ n. IsInnermost items (length items) n (last_of (held ++ (i, c) ∷ []))) (sym start_is)
          (innermost_now items (held ++ (i, c) ∷ []) (at text rest) r.are r.ends))));
      end = end_same;
    } in
    let placed : ArePlaced (set items i z) (tokens ++ token ∷ []) =
    placed_more (set items i z) tokens token
    (placed_kept text (at text rest) token.span.end items (set items i z) tokens grows r.base.walked.are (omega (arith, later, end_is))
    (omega (arith, count)) r.placed)
    (subst (λ t. IsPlaced t (set items i z) tokens token) (sym kind) place) in
    let closed : AreClosed (set items i z) (tokens ++ token ∷ []) =
    λ j item d here holds.
    elim (set_cases items i z j item here) [
      | inl was ↦ closed_more items tokens token r.closed j item d was.1 holds
      | inr is ↦
          let same : value (Some d) ≡ value (Some c) = sym holds ∙ ap (λ y. role_sort y.role) is.1 ∙ ap role_sort e.1.role ∙ last.is.holds in
          inr (record {
            front = tokens;
            token = token;
            behind = [];
            whole = refl;
            kind = kind ∙ ap (λ e. kinds.Close e) (sym (same_container d c same));
            ends = sym (ap (λ y. y.span.end) is.1 ∙ end_same);
          })
    ] in
    record {
      base = base;
      placed = subst (λ xs. ArePlaced xs (tokens ++ token ∷ [])) (sym made) placed;
      closed = subst (λ xs. AreClosed xs (tokens ++ token ∷ [])) (sym made) closed;
      ends = subst (λ xs. EndBy xs (at text behind)) (sym made) (λ j item here.
          elim (set_cases items i z j item here) [
            | inl was ↦ omega (arith, later, r.ends j item was.1)
            | inr is ↦ subst (λ y. y.span.end ≤ at text behind) (sym is.1) (omega (arith, end_same, end_is))
          ]);
      are =
          subst (λ xs. AreOpen xs 0 held) (sym made)
          (open_closed items z 0 held (i, c) r.are (λ d. ended_not token.span.end a z d last.is.alone e.1.span (omega (arith, last.is.alone, by, start_is, some))));
      nested = (same_from_push (map (λ (h : ℕ × Container). h.1) held) nest c c
          (sym (map-append (λ (h : ℕ × Container). h.1) held ((i, c) ∷ [])) ∙ r.nested)).0;
      before = not_part_before tokens token not_part;
      low = tt;
      heading =
          subst (λ xs. IsSection xs (tokens ++ token ∷ []) (length xs) section) (sym made)
          (subst (λ n. IsSection (set items i z) (tokens ++ token ∷ []) n section) (sym size)
          (section_more (set items i z) tokens token (length items) section not_header (
            r.heading.0,
            r.heading.1,
            last_heading_kept token.span.end items (set items i z) r.heading.0 (length items) section grows (omega arith) r.heading.2,
          )));
    }
