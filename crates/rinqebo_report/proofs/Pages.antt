-- Pages that a loop writes.
use Rattle.std.proofs.Common.{◌≡◌, ◌<◌, ◌+◌, ℕ, List, [], ◌∷◌, ◌++◌, length, take, get_or, flat_map, sym, ap, ◌∙◌, append_assoc, arith, length-take}
use Rattle.std.proofs.lemmas.List.{append-nil}
use Rattle.std.proofs.lemmas.Grind.{flat_map-append, take_at_read}
use Rattle.rinqebo_report.specs.declared.origin.Source.{Source}
use Rattle.rinqebo_report.specs.declared.piece.Colour.{Colour}
use Rattle.rinqebo_report.specs.declared.report.Rule.{Rule}
use Rattle.rinqebo_report.specs.Pages.{rule_runs, rules_runs}
use Rattle.rinqebo_report.specs.Pieces.{Run, painted, page_text}

-- one more rule has the next number
pub rules_runs-push : (columns : ℕ) (root : List ℕ) (sources : List Source) (key : List ℕ) (n : ℕ) (rules : List Rule) (rule : Rule)
    → rules_runs columns root sources key n (rules ++ rule ∷ [])
    ≡ rules_runs columns root sources key n rules ++ rule_runs columns root sources key (n + length rules) rule
rules_runs-push columns root sources key n [] rule =
    let same : n ≡ n + 0 = omega arith in
    append-nil (rule_runs columns root sources key n rule) ∙ ap (λ m. rule_runs columns root sources key m rule) same
rules_runs-push columns root sources key n (first ∷ rules) rule =
    let same : (n + 1) + length rules ≡ n + length (first ∷ rules) = omega arith in
    ap (λ rest. rule_runs columns root sources key n first ++ rest)
    (rules_runs-push columns root sources key (n + 1) rules rule
    ∙ ap (λ m. rules_runs columns root sources key (n + 1) rules ++ rule_runs columns root sources key m rule) same)
    ∙ sym (append_assoc (rule_runs columns root sources key n first) (rules_runs columns root sources key (n + 1) rules)
    (rule_runs columns root sources key (n + length (first ∷ rules)) rule))

-- what one rule more of a page has written
pub rules_more : (tint : Colour) (columns : ℕ) (root : List ℕ) (sources : List Source) (key : List ℕ) (rules : List Rule)
    (i : ℕ) (rule : Rule)
    → i < length rules → rule ≡ get_or rules i rule
    → (start old new : List ℕ) → old ≡ start ++ page_text tint (rules_runs columns root sources key 0 (take i rules))
    → new ≡ old ++ page_text tint (rule_runs columns root sources key i rule)
    → new ≡ start ++ page_text tint (rules_runs columns root sources key 0 (take (i + 1) rules))
rules_more tint columns root sources key rules i rule lt is start old new h n =
    let more : take (i + 1) rules ≡ take i rules ++ rule ∷ [] =
    (take_at_read rules i rule lt).1 ∙ ap (λ r. take i rules ++ r ∷ []) (sym is) in
    let number : 0 + length (take i rules) ≡ i = omega (arith, length-take i rules) in
    let before : List Run = rules_runs columns root sources key 0 (take i rules) in
    let runs : rules_runs columns root sources key 0 (take (i + 1) rules) ≡ before ++ rule_runs columns root sources key i rule =
    ap (rules_runs columns root sources key 0) more
    ∙ rules_runs-push columns root sources key 0 (take i rules) rule
    ∙ ap (λ m. before ++ rule_runs columns root sources key m rule) number in
    n ∙ ap (λ t. t ++ page_text tint (rule_runs columns root sources key i rule)) h
    ∙ append_assoc start (page_text tint before) (page_text tint (rule_runs columns root sources key i rule))
    ∙ ap (λ t. start ++ t) (sym (flat_map-append (painted tint) before (rule_runs columns root sources key i rule)))
    ∙ ap (λ rs. start ++ page_text tint rs) (sym runs)

-- what one element more of a page has written
pub page_more : {X : Type 0} (tint : Colour) (g : X → List Run) (xs : List X) (i : ℕ) (x : X)
    → i < length xs → x ≡ get_or xs i x
    → (start old new : List ℕ) → old ≡ start ++ page_text tint (flat_map g (take i xs))
    → new ≡ old ++ page_text tint (g x)
    → new ≡ start ++ page_text tint (flat_map g (take (i + 1) xs))
page_more {X} tint g xs i x lt is start old new h n =
    let more : take (i + 1) xs ≡ take i xs ++ x ∷ [] =
    (take_at_read xs i x lt).1 ∙ ap (λ y. take i xs ++ y ∷ []) (sym is) in
    let before : List Run = flat_map g (take i xs) in
    let runs : flat_map g (take (i + 1) xs) ≡ before ++ g x =
    ap (flat_map g) more ∙ flat_map-append g (take i xs) (x ∷ []) ∙ ap (λ rs. before ++ rs) (append-nil (g x)) in
    n ∙ ap (λ t. t ++ page_text tint (g x)) h
    ∙ append_assoc start (page_text tint before) (page_text tint (g x))
    ∙ ap (λ t. start ++ t) (sym (flat_map-append (painted tint) before (g x)))
    ∙ ap (λ rs. start ++ page_text tint rs) (sym runs)

-- what was written in two parts
pub and_runs : (tint : Colour) (a b : List Run) (old mid new : List ℕ)
    → mid ≡ old ++ page_text tint a → new ≡ mid ++ page_text tint b → new ≡ old ++ page_text tint (a ++ b)
and_runs tint a b old mid new h n =
    n ∙ ap (λ t. t ++ page_text tint b) h
    ∙ append_assoc old (page_text tint a) (page_text tint b)
    ∙ ap (λ t. old ++ t) (sym (flat_map-append (painted tint) a b))
