-- The lists and tables that are open, as items are made.
use Rattle.std.proofs.Common.{◌≡◌, ◌⊎◌, ◌<◌, ◌≤◌, ◌-◌, ℕ, suc, List, [], ◌∷◌, ◌++◌, length, set, Some, sym, ap, ◌∙◌, subst, arith, length-append, inl, inr}
use Rattle.std.specs.List.{slice_get}
use Rattle.std.proofs.lemmas.Bool.{cases_order}
use Rattle.std.proofs.lemmas.Option.{slice_get_within}
use Rattle.nextest_places.specs.declared.spans.item.Item.{Item}
use Rattle.nextest_places.specs.declared.spans.token.Container.{Container}
use Rattle.nextest_places.specs.Spans.Items.{role_sort, value}
use Rattle.nextest_places.specs.Spans.Nesting.{last_of}
use Rattle.nextest_places.specs.Spans.Tree.{IsInnermost, NoneOpen}
use Rattle.nextest_places.proofs.spans.Lists.{at_cases, at_pushed, at_seam, at_other, last_cases, set_cases}

-- an item is a list or a table that is its opening bracket alone
pub record IsUnclosed (item : Item) (c : Container) : Type 0 where
  pub holds : role_sort item.role ≡ value (Some c)
  pub alone : item.span.end ≡ suc item.span.start

abbrev pub NoneUnclosed : List Item → ℕ → ℕ → Type 0
NoneUnclosed items low high = (i : ℕ) (item : Item) (c : Container) → low ≤ i → i < high → slice_get items i ≡ Some item → ¬ IsUnclosed item c

-- these lists and tables are not closed, and isnt others from one index on
abbrev pub AreOpen : List Item → ℕ → List (ℕ × Container) → Type 0
AreOpen items low [] = NoneUnclosed items low (length items)
AreOpen items low (h ∷ hs) = (item : Item) × (low ≤ h.0) × (slice_get items h.0 ≡ Some item) × IsUnclosed item h.1
    × NoneUnclosed items low h.0 × AreOpen items (suc h.0) hs

pub open_start : AreOpen [] 0 []
open_start i item c low less at o = absurd (omega (arith, less))

none_pushed : (items : List Item) (x : Item) (low high : ℕ) → high ≤ length items → NoneUnclosed items low high
    → NoneUnclosed (items ++ x ∷ []) low high
none_pushed items x low high within none i item c le less at =
    none i item c le less (sym (at_pushed items x i (omega (arith, less, within))) ∙ at)

pub open_pushed : (items : List Item) (x : Item) (low : ℕ) (hs : List (ℕ × Container)) → AreOpen items low hs → ((c : Container) → ¬ IsUnclosed x c)
    → AreOpen (items ++ x ∷ []) low hs
open_pushed items x low [] none isnt = λ i item c le less at.
    elim (at_cases items x i item at) [
      | inl was ↦ none i item c le (slice_get_within items i item was) was
      | inr is ↦ subst (λ y. ¬ IsUnclosed y c) (sym is.1) (isnt c)
    ]
open_pushed items x low (h ∷ hs) are isnt =
    let within : h.0 < length items = slice_get_within items h.0 are.0 are.2 in (
      are.0,
      are.1,
      at_pushed items x h.0 within ∙ are.2,
      are.3,
      none_pushed items x low h.0 (omega (arith, within)) are.4,
      open_pushed items x (suc h.0) hs are.5 isnt,
    )

pub open_opened : (items : List Item) (x : Item) (c : Container) (low : ℕ) (hs : List (ℕ × Container)) → AreOpen items low hs → low ≤ length items
    → IsUnclosed x c → AreOpen (items ++ x ∷ []) low (hs ++ (length items, c) ∷ [])
open_opened items x c low [] none le is = (
  x,
  le,
  at_seam items x,
  is,
  none_pushed items x low (length items) (omega arith) none,
  λ i item d more less at o. absurd (omega (arith, more, less, length-append items (x ∷ []))),
)
open_opened items x c low (h ∷ hs) are le is =
    let within : h.0 < length items = slice_get_within items h.0 are.0 are.2 in (
      are.0,
      are.1,
      at_pushed items x h.0 within ∙ are.2,
      are.3,
      none_pushed items x low h.0 (omega (arith, within)) are.4,
      open_opened items x c (suc h.0) hs are.5 (omega (arith, within)) is,
    )

pub open_above : (items : List Item) (low : ℕ) (hs : List (ℕ × Container)) (h : ℕ × Container) → AreOpen items low (hs ++ h ∷ []) → low ≤ h.0
open_above items low [] h are = are.1
open_above items low (g ∷ hs) h are = omega (arith, are.1, open_above items (suc g.0) hs h are.5)

sides : (i k : ℕ) → ¬ (i ≡ k) → (i < k) ⊎ (suc k ≤ i)
sides i k isnt =
    elim (cases_order i k) [
      | inl is ↦ absurd (isnt is)
      | inr is ↦ elim is [
        | inl less ↦ inl less
        | inr more ↦ inr (omega (arith, more))
      ]
    ]

none_set : (items : List Item) (k : ℕ) (z : Item) (low high : ℕ) → high ≤ k → NoneUnclosed items low high → NoneUnclosed (set items k z) low high
none_set items k z low high within none i item c le less at =
    none i item c le less (sym (at_other items k i z (λ e. absurd (omega (arith, e, less, within)))) ∙ at)

pub open_closed : (items : List Item) (z : Item) (low : ℕ) (hs : List (ℕ × Container)) (h : ℕ × Container) → AreOpen items low (hs ++ h ∷ [])
    → ((c : Container) → ¬ IsUnclosed z c) → AreOpen (set items h.0 z) low hs
open_closed items z low [] h are isnt = λ i item c le less at.
    elim (set_cases items h.0 z i item at) [
      | inr is ↦ subst (λ y. ¬ IsUnclosed y c) (sym is.1) (isnt c)
      | inl was ↦ λ o.
          elim (sides i h.0 was.0) [
            | inl before ↦ are.4 i item c le before was.1 o
            | inr after ↦ are.5 i item c after (slice_get_within items i item was.1) was.1 o
          ]
    ]
open_closed items z low (g ∷ hs) h are isnt =
    let above : suc g.0 ≤ h.0 = open_above items (suc g.0) hs h are.5 in (
      are.0,
      are.1,
      at_other items h.0 g.0 z (λ e. absurd (omega (arith, e, above))) ∙ are.2,
      are.3,
      none_set items h.0 z low g.0 (omega (arith, above)) are.4,
      open_closed items z (suc g.0) hs h are.5 isnt,
    )

-- ---- the innermost

pub record IsLastOpen (items : List Item) (h : ℕ × Container) : Type 0 where
  pub item : Item
  pub at : slice_get items h.0 ≡ Some item
  pub is : IsUnclosed item h.1
  pub none : NoneUnclosed items (suc h.0) (length items)

pub last_open : (items : List Item) (low : ℕ) (hs : List (ℕ × Container)) (h : ℕ × Container) → AreOpen items low (hs ++ h ∷ []) → IsLastOpen items h
last_open items low [] h are = record { item = are.0; at = are.2; is = are.3; none = are.5 }
last_open items low (g ∷ hs) h are = last_open items (suc g.0) hs h are.5

pub last_is : {A : Type 0} (xs : List A) (y : A) → last_of (xs ++ y ∷ []) ≡ Some y
last_is xs y =
    let size : length (xs ++ y ∷ []) - 1 ≡ length xs = omega (arith, length-append xs (y ∷ [])) in
    ap (slice_get (xs ++ y ∷ [])) size ∙ at_seam xs y

-- each item ends by a byte
abbrev pub EndBy : List Item → ℕ → Type 0
EndBy items now = (i : ℕ) (item : Item) → slice_get items i ≡ Some item → item.span.end ≤ now

none_open : (items : List Item) (low now : ℕ) → EndBy items now → NoneUnclosed items low (length items) → NoneOpen items low (length items) now
none_open items low now ends none i item c le less at o =
    elim o.goes_on [
      | inl beyond ↦ absurd (omega (arith, beyond, ends i item at))
      | inr alone ↦ none i item c le less at (record { holds = o.holds; alone = alone })
    ]

pub innermost_now : (items : List Item) (hs : List (ℕ × Container)) (now : ℕ) → AreOpen items 0 hs → EndBy items now
    → IsInnermost items (length items) now (last_of hs)
innermost_now items hs now are ends =
    elim (last_cases hs) [
      | inl is ↦
          subst (λ l. IsInnermost items (length items) now (last_of l)) (sym is) (none_open items 0 now ends (subst (AreOpen items 0) is are))
      | inr is ↦
          let h = is.1 in
          let last = last_open items 0 is.0 h (subst (AreOpen items 0) is.2 are) in
          let begun : last.item.span.start < now = omega (arith, last.is.alone, ends h.0 last.item last.at) in
          subst (λ l. IsInnermost items (length items) now (last_of l)) (sym is.2)
          (subst (IsInnermost items (length items) now) (sym (last_is is.0 h)) (
            last.item,
            slice_get_within items h.0 last.item last.at,
            last.at,
            record { holds = last.is.holds; begun = begun; goes_on = inr last.is.alone },
            none_open items (suc h.0) now ends last.none,
          ))
    ]
