-- The triples of the table rise, so each finds its own row.
use Rattle.std.proofs.Common.{◌≡◌, ℕ, ◌+◌, ◌<◌, zero, suc, Bool, true, false, ◌&&◌, List, [], ◌∷◌, length, map, get_or, Ordering, bytes_eq, refl, sym, ◌∙◌, ap, subst, arith}
use Rattle.std.proofs.lemmas.Bool.{true≢false, false_from_ne_true, and_parts}
use Rattle.std.proofs.lemmas.Cmp.{nat_list_cmp_total}
use Rattle.std.proofs.lemmas.List.{get_or-map, length-map}
use Rattle.std.proofs.lemmas.Map.Keys.{sorted_from_all_adjacent, sorted_tail, Less-from_sorted}
use Rattle.std.proofs.lemmas.Slice.Eq.{bytes_eq-Decides}
use Rattle.std.specs.Cmp.Lexicographic.{slice_cmp}
use Rattle.std.specs.Ordering.{is_lt, nat_cmp, ordering_reverse}
use Rattle.std.specs.declared.cmp.Ordering.TheVariants.{Less, Equal, Greater}
use Rattle.platform_language.specs.Platforms.Rows.{Row}
use Rattle.platform_language.specs.Platforms.Table.{targets}
use Rattle.platform_language.specs.Platforms.Targets.{TriplesRise, RowsAreFound}

-- how two triples compare
abbrev compare : List ℕ → List ℕ → Ordering
compare = slice_cmp nat_cmp

-- whether each text is before the next
rises : List (List ℕ) → Bool
rises [] = true
rises (x ∷ []) = true
rises (x ∷ y ∷ texts) = is_lt (compare x y) && rises (y ∷ texts)

less : (order : Ordering) → is_lt order ≡ true → order ≡ Less
less Less is = refl
less Equal is = absurd (true≢false (sym is))
less Greater is = absurd (true≢false (sym is))

adjacent : (texts : List (List ℕ)) (d : List ℕ) → rises texts ≡ true → (k : ℕ) → k + 1 < length texts
    → compare (get_or texts k d) (get_or texts (k + 1) d) ≡ Less
unfolding rises
adjacent [] d is k inside = let no : ⊥ = omega arith in absurd no
adjacent (x ∷ []) d is k inside = let no : ⊥ = omega arith in absurd no
adjacent (x ∷ y ∷ texts) d is zero inside = less _ (and_parts (is_lt (compare x y)) _ is).0
adjacent (x ∷ y ∷ texts) d is (suc k) inside =
    subst (λ n. compare (get_or (y ∷ texts) k d) (get_or (x ∷ y ∷ texts) n d) ≡ Less) {x = suc (k + 1)}
    {y = suc k + 1} (omega arith)
    (adjacent (y ∷ texts) d (and_parts (is_lt (compare x y)) _ is).1 k (omega arith))

targets_rise : rises (map (λ row. row.triple) targets) ≡ true
unfolding rises targets
targets_rise = refl

pub triples_rise : TriplesRise targets
triples_rise = sorted_from_all_adjacent nat_list_cmp_total _ [] (adjacent _ [] targets_rise)

-- a text that is before another is another
differs : (x y : List ℕ) → compare x y ≡ Less → bytes_eq x y ≡ false
differs x y before = false_from_ne_true (bytes_eq x y) (λ same.
    let itself : compare x x ≡ Less = subst (λ t. compare x t ≡ Less) (sym ((bytes_eq-Decides x y).0 same)) before in
    true≢false (ap is_lt (sym itself ∙ nat_list_cmp_total.antisymm x x ∙ ap ordering_reverse itself)))

found : (rows : List Row) → TriplesRise rows → RowsAreFound rows
found [] rise row (k, inside, is) = let no : ⊥ = omega arith in absurd no
found (first ∷ rows) rise row (zero, inside, is) =
    rw is (rw ((bytes_eq-Decides row.triple row.triple).1 refl) refl)
found (first ∷ rows) rise row (suc k, inside, is) =
    let there : get_or (map (λ row. row.triple) rows) k row.triple ≡ row.triple =
    get_or-map (λ row. row.triple) rows k row row.triple (omega arith) ∙ ap (λ row. row.triple) is in
    let before : compare first.triple row.triple ≡ Less =
    subst (λ t. compare first.triple t ≡ Less) there
    (Less-from_sorted compare (map (λ row. row.triple) (first ∷ rows)) 0 (suc k) row.triple rise (omega arith)
    (omega (arith, length-map rows (λ row. row.triple)))) in
    rw (differs first.triple row.triple before)
    (found rows (sorted_tail compare first.triple (map (λ row. row.triple) rows) rise) row (k, omega arith, is))

pub rows_are_found : RowsAreFound targets
rows_are_found = found targets triples_rise
