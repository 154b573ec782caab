-- The lines of a text that show marks.
use Rattle.std.proofs.Common.{◌≡◌, ◌<◌, ◌≤◌, ◌+◌, ℕ, Bool, true, false, not, ◌&&◌, List, [], ◌∷◌, ◌++◌, Option, None, Some, length, take, drop, get_or, map, refl, sym, ap, ◌∙◌, subst, arith, append_assoc, append-nil, lt-ltb, inl, inr, length-append, length-take, get_or-take, eq-eqb, eqb-true, true≢false, ◌==◌}
use Rattle.std.specs.Prelude.{flat_map, nat_lt, if◌then◌else◌}
use Rattle.std.specs.Option.{option_to_list}
use Rattle.std.proofs.Math.Seq.{take-append_seam}
use Rattle.std.proofs.lemmas.Bool.{cases_lt}
use Rattle.std.proofs.lemmas.List.{at_drop_more, drop_all, length-map, take_all}
use Rattle.rinqebo_faults.specs.Lines.{ShownLine, is_shown, last_shown, line_parts, part_of, shown_behind, shown_view, shown_with, span_in}
use Rattle.rinqebo_faults.specs.declared.lines.Mark.{Mark}
use Rattle.rinqebo_report.specs.declared.finding.LinePart.{LinePart}
use Rattle.rinqebo_report.specs.declared.finding.SourceLine.{SourceLine}
use Rattle.rinqebo_report.specs.declared.origin.Range.{Range}

and_false : (b : Bool) → (b && false) ≡ false
and_false true = refl
and_false false = refl

-- no line behind the last one of a mark shows it
hidden_range : (range : Range) (number : ℕ) → last_shown range < number
    → is_shown range number ≡ false
unfolding is_shown
hidden_range range number low =
    ap (λ b. not (nat_lt number range.start.line) && not b) (lt-ltb (last_shown range) number low)
    ∙ and_false (not (nat_lt number range.start.line))

hidden : (number : ℕ) (line : List ℕ) (mark : Mark) → last_shown mark.range < number
    → part_of number line mark ≡ []
hidden number line mark low =
    let here : List LinePart = record { sign = mark.sign; span = span_in mark.range number line } ∷ [] in
    ap (λ b. if b then here else []) (hidden_range mark.range number low)

-- a mark that a line doesn't show adds no part
pub skip : (number : ℕ) (line : List ℕ) (marks : List Mark) (i shown : ℕ) (d : Mark) → i < length marks
    → shown ≡ last_shown (get_or marks i d).range → shown < number
    → flat_map (part_of number line) (drop i marks) ≡ flat_map (part_of number line) (drop (i + 1) marks)
skip number line marks i shown d inside is low =
    at_drop_more (flat_map (part_of number line)) marks i d inside
    ∙ ap (λ ps. ps ++ flat_map (part_of number line) (drop (i + 1) marks))
    (hidden number line (get_or marks i d) (subst (λ n. n < number) is low))

-- no line is shown behind the last one
pub none_behind : (marks : List Mark) (last number : ℕ) (rest : List (List ℕ))
    → ((n : ℕ) → last < n → (line : List ℕ) → line_parts marks n line ≡ []) → last ≤ number
    → shown_behind marks number rest ≡ []
none_behind marks last number [] none high = refl
none_behind marks last number (line ∷ rest) none high =
    ap (λ ps. option_to_list (shown_with (number + 1) line ps) ++ shown_behind marks (number + 1) rest)
    (none (number + 1) (omega arith) line)
    ∙ none_behind marks last (number + 1) rest none (omega arith)

-- one more line
pub next_line : (marks : List Mark) (text : List (List ℕ)) (n : ℕ) (line : List ℕ) (old new : List ShownLine)
    → (n < length text) × (line ≡ get_or text n line)
    → new ≡ old ++ option_to_list (shown_with (n + 1) line (line_parts marks (n + 1) line))
    → new ++ shown_behind marks (n + 1) (drop (n + 1) text)
    ≡ old ++ shown_behind marks n (drop n text)
next_line marks text n line old new h more =
    let here = option_to_list (shown_with (n + 1) line (line_parts marks (n + 1) line)) in
    let rest = shown_behind marks (n + 1) (drop (n + 1) text) in
    ap (λ l. l ++ rest) more ∙ append_assoc old here rest
    ∙ ap (λ l. old ++ l)
    (sym (at_drop_more (shown_behind marks n) text n line h.0
    ∙ ap (λ l. shown_behind marks n (l ∷ drop (n + 1) text)) (sym h.1)))

-- three lines are shown, or all of them if there are no more
pub first_three : (shown rest all : List ShownLine) → shown ++ rest ≡ all → length shown ≡ 3
    → shown ≡ take 3 all
first_three shown rest all whole three =
    sym (ap (take 3) (sym whole) ∙ ap (λ n. take n (shown ++ rest)) (sym three) ∙ take-append_seam shown rest)

pub all_shown : (shown rest all : List ShownLine) → shown ++ rest ≡ all → rest ≡ [] → length shown ≤ 3
    → shown ≡ take 3 all
all_shown shown rest all whole none few =
    sym (take_all 3 shown few)
    ∙ ap (take 3) (sym (append-nil shown) ∙ ap (λ r. shown ++ r) (sym none) ∙ whole)

-- nothing is shown behind the lines up to the last one
pub rest_none : (marks : List Mark) (last n : ℕ) (text : List (List ℕ))
    → ((k : ℕ) → last < k → (line : List ℕ) → line_parts marks k line ≡ [])
    → n ≡ length (take last text) → shown_behind marks n (drop n text) ≡ []
rest_none marks last n text none is =
    elim (cases_lt n (length text)) [
      | inl low ↦ none_behind marks last n (drop n text) none (omega (arith, length-take {A = List ℕ}))
      | inr high ↦ ap (shown_behind marks n) (drop_all n text high)
    ]

-- a line among the first ones of a text
pub taken_at : (text : List (List ℕ)) (end n : ℕ) (line : List ℕ)
    → (n < length (take end text)) × (line ≡ get_or (take end text) n line)
    → (n < length text) × (line ≡ get_or text n line) × (n < end)
taken_at text end n line h =
    let low : n < end = omega (arith, length-take {A = List ℕ}) in
    (omega (arith, length-take {A = List ℕ}), h.1 ∙ get_or-take end text n line low, low)

-- the same with what a loop counts
pub next_shown : (marks : List Mark) (text : List (List ℕ)) (n : ℕ) (line : List ℕ) (number next count : ℕ)
    (old new all : List ShownLine) → number ≡ n → next ≡ n + 1 → count ≡ n + 1
    → n < length text → line ≡ get_or text n line
    → new ≡ old ++ option_to_list (shown_with next line (line_parts marks next line))
    → old ++ shown_behind marks number (drop n text) ≡ all
    → new ++ shown_behind marks next (drop count text) ≡ all
next_shown marks text n line number next count old new all here behind counted low is more so_far =
    ap (λ k. new ++ shown_behind marks k (drop count text)) behind
    ∙ ap (λ k. new ++ shown_behind marks (n + 1) (drop k text)) counted
    ∙ next_line marks text n line old new (low, is)
    (more ∙ ap (λ k. old ++ option_to_list (shown_with k line (line_parts marks k line))) behind)
    ∙ ap (λ k. old ++ shown_behind marks k (drop n text)) (sym here)
    ∙ so_far

at_most_one : (o : Option ShownLine) → length (option_to_list o) ≤ 1
at_most_one None = omega arith
at_most_one (Some line) = omega arith

-- there is room for one more line
pub still_few : (old new : List SourceLine) (o : Option ShownLine) (full : Bool)
    → map shown_view new ≡ map shown_view old ++ option_to_list o → length old < 3
    → full ≡ (length new == 3) → full ≡ false → length new < 3
still_few old new o full more few is not_full =
    let long : length new ≡ length old + length (option_to_list o) =
    sym (length-map new shown_view) ∙ ap length more
    ∙ length-append (map shown_view old) (option_to_list o)
    ∙ ap (λ n. n + length (option_to_list o)) (length-map old shown_view) in
    let one = at_most_one o in
    let other : length new ≡ 3 → ⊥ = λ three. true≢false (sym (is ∙ eq-eqb (length new) 3 three) ∙ not_full) in
    omega (arith, other)

pub is_three : (new : List SourceLine) (full : Bool) → full ≡ (length new == 3) → full ≡ true
    → length (map shown_view new) ≡ 3
is_three new full is is_full =
    length-map new shown_view ∙ eqb-true (length new) 3 (sym is ∙ is_full)

pub few_shown : (new : List SourceLine) → length new < 3 → length (map shown_view new) ≤ 3
few_shown new few = let l = length-map new shown_view in omega arith
