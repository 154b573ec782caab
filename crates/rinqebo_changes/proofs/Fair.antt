-- Nothing changes between equal rows, and swapped sides swap what changes.
use Rattle.std.proofs.Common.{◌≡◌, ℕ, ◌+◌, ◌∙◌, Bool, true, false, cond, not, ◌&&◌, ◌||◌, List, [], ◌∷◌, Option, option_map, map, refl, sym, ap}
use Rattle.std.specs.Bool.{Decides}
use Rattle.std.specs.Option.{option_eq}
use Rattle.std.proofs.lemmas.Bool.Decides.{Decides-like, same_from_decides}
use Rattle.rinqebo_report.specs.declared.origin.Source.{Source}
use Rattle.rinqebo_report.specs.declared.value.Value.{Value}
use Rattle.rinqebo_changes.specs.declared.change.RowChange.{RowChange}
use Rattle.rinqebo_changes.specs.declared.change.SideRow.{SideRow}
use Rattle.rinqebo_changes.specs.Changes.{change_of, is_change, like_source_of}
use Rattle.rinqebo_changes.specs.Laws.{swapped, AreFair}
use Rattle.rinqebo_changes.specs.Same.{same_value}
use Rattle.rinqebo_changes.specs.SourceViews.{source_view}
use Rattle.rinqebo_changes.specs.ValueViews.{value_view}
use Rattle.rinqebo_changes.proofs.Exactly.{changed_from}
use Rattle.rinqebo_changes.proofs.LikeSources.{source_decides, unchanged}
use Rattle.rinqebo_changes.proofs.SameValues.{setting_decides}

-- a test that decides an equation is the same either way round
either_way : {V : Type 0} (v w : V) (p q : Bool) → Decides p (v ≡ w) → Decides q (w ≡ v) → p ≡ q
either_way v w p q dp dq = same_from_decides p q dp (Decides-like q (λ e. sym e) (λ e. sym e) dq)

-- values of a setting
settings_swap : (a b : Option Value) → option_eq same_value b a ≡ option_eq same_value a b
settings_swap a b =
    either_way (option_map value_view b) (option_map value_view a) _ _ (setting_decides b a) (setting_decides a b)

-- where values come from
source_swap : (s t : List Source) (a b : SideRow) → like_source_of t s b a ≡ like_source_of s t a b
source_swap s t a b =
    either_way (source_view t b) (source_view s a) (like_source_of t s b a) (like_source_of s t a b)
    (source_decides t s b a) (source_decides s t a b)

-- whether a setting changes
change_same : (s : List Source) (w : Bool) (r : SideRow) → is_change s s w r r ≡ false
change_same s w r = unchanged s s w r r refl (λ counts. refl)

change_swap : (s t : List Source) (w : Bool) (a b : SideRow) → is_change t s w b a ≡ is_change s t w a b
change_swap s t w a b =
    λ i. not (settings_swap a.row.value b.row.value i) || (w && not (source_swap s t a b i))

-- rows that do not change
none_from : (test : SideRow → SideRow → Bool) → ((r : SideRow) → test r r ≡ false)
    → (n : ℕ) (rows : List SideRow) → changed_from test n rows rows ≡ []
none_from test same n [] = refl
none_from test same n (r ∷ rows) =
    let rest = changed_from test (n + 1) rows rows in
    ap (λ q. cond q (change_of (n, (r, r)) ∷ rest) rest) (same r) ∙ none_from test same (n + 1) rows

swap_step : (q : Bool) (n : ℕ) (a b : SideRow) (xs ys : List RowChange) → ys ≡ map swapped xs
    → cond q (change_of (n, (b, a)) ∷ ys) ys ≡ map swapped (cond q (change_of (n, (a, b)) ∷ xs) xs)
swap_step true n a b xs ys h = ap (λ t. change_of (n, (b, a)) ∷ t) h
swap_step false n a b xs ys h = h

swap_from : (test other : SideRow → SideRow → Bool) → ((a b : SideRow) → other b a ≡ test a b)
    → (n : ℕ) (left right : List SideRow)
    → changed_from other n right left ≡ map swapped (changed_from test n left right)
swap_from test other same n [] [] = refl
swap_from test other same n [] (b ∷ ys) = refl
swap_from test other same n (a ∷ xs) [] = refl
swap_from test other same n (a ∷ xs) (b ∷ ys) =
    let left = changed_from test (n + 1) xs ys in
    let right = changed_from other (n + 1) ys xs in
    ap (λ q. cond q (change_of (n, (b, a)) ∷ right) right) (same a b)
    ∙ swap_step (test a b) n a b left right (swap_from test other same (n + 1) xs ys)

pub fair : (s t : List Source) (w : Bool) → AreFair s t w
fair s t w = record {
  equal = λ rows. none_from (is_change s s w) (change_same s w) 0 rows;
  swap = λ left right. swap_from (is_change s t w) (is_change t s w) (change_swap s t w) 0 left right;
}
