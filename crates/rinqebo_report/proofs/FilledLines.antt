-- A loop that writes the lines of a header.
use Rattle.std.proofs.Common.{◌≡◌, ◌<◌, ◌≤◌, ◌+◌, ℕ, List, [], ◌∷◌, ◌++◌, length, drop, get_or, map, flat_map, sym, ap, ◌∙◌, append_assoc}
use Rattle.std.proofs.lemmas.Grind.{flat_map-append}
use Rattle.std.proofs.lemmas.List.{at_drop_all, at_drop_more}
use Rattle.rinqebo_report.specs.declared.piece.Colour.{Colour}
use Rattle.rinqebo_report.specs.Headers.{ended_runs, filled_runs, line_with}
use Rattle.rinqebo_report.specs.Layout.{remark_line}
use Rattle.rinqebo_report.specs.Pieces.{Run, painted, page_text}

-- what is written with one part more, and what is still to be written, are all lines
pub filled_more : {X : Type 0} (tint : Colour) (n : ℕ) (f : X → List ℕ) (xs : List X) (i : ℕ) (x : X)
    → i < length xs → x ≡ get_or xs i x → (whole old new line next : List ℕ)
    → old ++ page_text tint (filled_runs n line (map f (drop i xs))) ≡ whole
    → new ≡ old ++ page_text tint (ended_runs n line (f x)) → next ≡ line_with n line (f x)
    → new ++ page_text tint (filled_runs n next (map f (drop (i + 1) xs))) ≡ whole
filled_more {X} tint n f xs i x lt is whole old new line next h written begun =
    let rest : List (List ℕ) = map f (drop (i + 1) xs) in
    let ended : List Run = ended_runs n line (f x) in
    let later : List Run = filled_runs n (line_with n line (f x)) rest in
    let more : page_text tint (filled_runs n line (map f (drop i xs))) ≡ page_text tint (ended ++ later) =
    at_drop_more (λ ys. page_text tint (filled_runs n line (map f ys))) xs i x lt
    ∙ ap (λ y. page_text tint (filled_runs n line (f y ∷ rest))) (sym is) in
    ap (λ t. new ++ page_text tint (filled_runs n t rest)) begun
    ∙ ap (λ t. t ++ page_text tint later) written
    ∙ append_assoc old (page_text tint ended) (page_text tint later)
    ∙ ap (λ t. old ++ t) (sym (flat_map-append (painted tint) ended later) ∙ sym more)
    ∙ h

-- with the last line all are written
pub filled_all : {X : Type 0} (tint : Colour) (n : ℕ) (f : X → List ℕ) (xs : List X) (i : ℕ) → length xs ≤ i
    → (whole old new line : List ℕ)
    → old ++ page_text tint (filled_runs n line (map f (drop i xs))) ≡ whole
    → new ≡ old ++ page_text tint (remark_line line) → new ≡ whole
filled_all {X} tint n f xs i end whole old new line h written =
    written
    ∙ ap (λ t. old ++ t) (sym (at_drop_all (λ ys. page_text tint (filled_runs n line (map f ys))) xs i end))
    ∙ h
