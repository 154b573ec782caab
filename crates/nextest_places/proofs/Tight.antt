-- No front of a text that ends within an expression's lines is a document.
use Rattle.std.proofs.Common.{◌≡◌, ℕ, zero, suc, ◌+◌, ◌-◌, ◌<◌, ◌≤◌, Bool, true, false, ◌==◌, List, [], ◌∷◌, ◌++◌, length, Option, Some, None, is_some, unwrap_or, refl, sym, ap, ◌∙◌, inl, inr, arith, append_assoc}
use Rattle.std.proofs.lemmas.Bool.{cases_Bool, true≢false}
use Rattle.std.proofs.lemmas.Bool.Decides.{nat_tests}
use Rattle.std.proofs.lemmas.Option.{same_Some}
use Rattle.toml_parser.specs.Lexical.{first, skip_blank, skip_from, skip_turn}
use Rattle.toml.specs.Tables.{Document, Expression}
use Rattle.toml.specs.Parse.{line, lines}
use Rattle.nextest_tree.specs.Node.{Node}
use Rattle.nextest_documents.specs.Text.{tree_of}
use Rattle.nextest_places.specs.Lines.{after_lines, first_lines, line_count}
use Rattle.nextest_places.specs.Search.{NoDocumentBetween}
use Rattle.nextest_places.specs.Pieces.{read_lines}
use Rattle.nextest_places.proofs.Documents.{bom_grown, grown_from, not_over_long}
use Rattle.nextest_places.proofs.GoesOn.{GoesOn, here, next, skip_grown}
use Rattle.nextest_places.proofs.Joined.{split_runs}
use Rattle.nextest_places.proofs.Kept.{Kept}
use Rattle.nextest_places.proofs.Sections.{EndsLf, count_after, ends_lf, lines_join}
use Rattle.nextest_places.proofs.Values.{line_kept}
use Rattle.nextest_places.proofs.Walked.{after_both, document_run, long_turn, run, start, start_run}

-- lines, and more lines behind them
pub grown_read : (is_start : Bool) (x y behind : List ℕ) → GoesOn behind x y
    → GoesOn behind (read_lines is_start x) (read_lines is_start y)
grown_read true x y behind g = bom_grown x y g
grown_read false x y behind g = g

grown_lines : (is_start : Bool) (i j : ℕ) (text : List ℕ) → EndsLf i text
    → GoesOn (first_lines j (after_lines i text)) (read_lines is_start (first_lines i text))
    (read_lines is_start (first_lines (i + j) text))
grown_lines is_start i j text ends =
    let (a, is) = ends in
    let more = first_lines j (after_lines i text) in
    let both : first_lines (i + j) text ≡ a ++ 10 ∷ more =
    lines_join i j text ∙ rw is (append_assoc a (10 ∷ []) more) in
    rw (is, both) (grown_read is_start (a ++ 10 ∷ []) (a ++ 10 ∷ more) more (grown_from a more))

after_front : (i j : ℕ) (text : List ℕ) → after_lines i (first_lines (i + j) text) ≡ first_lines j (after_lines i text)
after_front zero j text = let same : 0 + j ≡ j = omega arith in rw same refl
after_front (suc i) zero [] = let sum : suc i + 0 ≡ suc i = omega arith in rw sum refl
after_front (suc i) (suc j) [] = let sum : suc i + suc j ≡ suc (i + suc j) = omega arith in rw sum refl
after_front (suc i) j (c ∷ cs) =
    let sum : suc i + j ≡ suc (i + j) = omega arith in
    elim (cases_Bool (c == 10)) [
      | inl lf ↦ rw (sum, lf) (after_front i j cs)
      | inr other ↦ rw (sum, other) (rw sum at (after_front (suc i) j cs))
    ]

-- where a text that goes on is blank, so is what it goes on with
goes_blank : {behind : List ℕ} → (inside : Bool) (x y : List ℕ) → GoesOn behind x y → skip_from true inside y ≡ []
    → skip_from true false behind ≡ []
unfolding skip_from
goes_blank inside x y here h = h
goes_blank inside x y (next c xs ys g) h =
    let turn = skip_turn true inside c (first ys) in
    elim (cases_Bool (is_some turn)) [
      | inl more ↦ goes_blank (unwrap_or turn false) xs ys g (rw more at h)
      | inr stop ↦ let none : c ∷ ys ≡ [] = rw stop at h in absurd (cc)
    ]

-- and where a text is blank, so are its last lines
blank_lines : (n : ℕ) (inside : Bool) (text : List ℕ) → skip_from true inside text ≡ []
    → skip_from true false (after_lines (suc n) text) ≡ []
unfolding skip_from
blank_lines n inside [] h = refl
blank_lines zero inside (c ∷ cs) h =
    let turn = skip_turn true inside c (first cs) in
    elim (cases_Bool (is_some turn)) [
      | inr stop ↦ let none : c ∷ cs ≡ [] = rw stop at h in absurd (cc)
      | inl more ↦
          let rest : skip_from true (unwrap_or turn false) cs ≡ [] = rw more at h in
          elim (cases_Bool (c == 10)) [
            | inr other ↦ rw other (blank_lines zero (unwrap_or turn false) cs rest)
            | inl lf ↦
                let new : unwrap_or turn false ≡ false = rw lf refl in
                rw lf (rw new at rest)
          ]
    ]
blank_lines (suc n) inside (c ∷ cs) h =
    let turn = skip_turn true inside c (first cs) in
    elim (cases_Bool (is_some turn)) [
      | inr stop ↦ let none : c ∷ cs ≡ [] = rw stop at h in absurd (cc)
      | inl more ↦
          let rest : skip_from true (unwrap_or turn false) cs ≡ [] = rw more at h in
          elim (cases_Bool (c == 10)) [
            | inr other ↦ rw other (blank_lines (suc n) (unwrap_or turn false) cs rest)
            | inl lf ↦
                let new : unwrap_or turn false ≡ false = rw lf refl in
                rw lf (blank_lines n false cs (rw new at rest))
          ]
    ]

blank_after : (n : ℕ) (text : List ℕ) → skip_blank text ≡ [] → skip_blank (after_lines n text) ≡ []
blank_after zero text h = h
blank_after (suc n) text h = blank_lines n false text h

-- the lines that a document reads behind another one
pub read_behind : (text : List ℕ) (low n : ℕ) (doc mid : Document) → run (first_lines low text) ≡ Some doc
    → run (first_lines (low + n) text) ≡ Some mid → low < line_count text
    → (k : ℕ) × (lines k doc (read_lines (low == 0) (first_lines n (after_lines low text))) ≡ Some mid)
read_behind text zero n doc mid front all room =
    let none : 0 + n ≡ n = omega arith in
    let is : start ≡ doc = start_run doc front in
    (suc (length (first_lines n text)), rw (← is) (rw none at all))
read_behind text (suc l) n doc mid front all room =
    let (a, is) = ends_lf l 0 text room in
    let more = first_lines n (after_lines (suc l) text) in
    let both : first_lines (suc l + n) text ≡ a ++ 10 ∷ more =
    lines_join (suc l) n text ∙ rw is (append_assoc a (10 ∷ []) more) in
    let some : (suc l == 0) ≡ false = grind (arith, nat_tests) in
    rw some (split_runs _ _ start doc mid _ _ (bom_grown _ _ (grown_from a more)) (rw is at front) (rw both at all))

pub line_ends_lf : (text : List ℕ) (low n : ℕ) → 0 < n → low + n < line_count text → EndsLf n (after_lines low text)
line_ends_lf text low zero some room = absurd (omega (arith, some))
line_ends_lf text low (suc m) some room =
    let left = count_after low text 0 0 (omega (arith, room)) in
    ends_lf m 0 (after_lines low text) (omega (arith, room, left))

module _ (text : List ℕ) (low count : ℕ) (doc : Document) (expression : Expression) (rest : List ℕ)
    (front : run (first_lines low text) ≡ Some doc) (room : low + count ≤ line_count text)
    (alone : line (skip_blank (read_lines (low == 0) (first_lines count (after_lines low text))))
    ≡ Some (expression, rest))
    (over : skip_blank rest ≡ [])
    (begins : skip_blank (read_lines (low == 0) (first_lines 1 (after_lines low text))) ≡ [] → ⊥)
    (ends : skip_blank (after_lines (count - 1) (first_lines count (after_lines low text))) ≡ [] → ⊥) where
  -- the first lines are not blank
  begins_later : (k : ℕ) → 0 < k → k < count
      → (length (skip_blank (read_lines (low == 0) (first_lines k (after_lines low text)))) == 0) ≡ false
  begins_later k some less =
      let one = line_ends_lf text low 1 (omega arith) (omega (arith, room, some, less)) in
      let more : 1 + (k - 1) ≡ k = omega (arith, some) in
      let g = rw more at (grown_lines (low == 0) 1 (k - 1) (after_lines low text) one) in
      elim (skip_grown true _ _ g false) [
        | inl none ↦ absurd (begins none)
        | inr goes ↦ not_over_long _ _ goes
      ]

  -- what follows some of them is not blank
  ends_later : (k : ℕ) → 0 < k → k < count
      → skip_blank (first_lines (count - k) (after_lines k (after_lines low text))) ≡ [] → ⊥
  ends_later k some less blank =
      let all = after_lines low text in
      let whole : k + (count - k) ≡ count = omega (arith, less) in
      let most : k + (count - k - 1) ≡ count - 1 = omega (arith, less) in
      let behind : after_lines k (first_lines count all) ≡ first_lines (count - k) (after_lines k all) =
      rw whole at (after_front k (count - k) all) in
      let last : after_lines (count - 1) (first_lines count all)
      ≡ after_lines (count - k - 1) (first_lines (count - k) (after_lines k all)) =
      rw (most, behind) at (after_both k (count - k - 1) (first_lines count all)) in
      ends (ap skip_blank last ∙ blank_after (count - k - 1) _ blank)

  read_within : (behind x y : List ℕ) → GoesOn behind x y → (length (skip_blank x) == 0) ≡ false
      → line (skip_blank y) ≡ Some (expression, rest) → (e : Expression × List ℕ) → line (skip_blank x) ≡ Some e
      → skip_blank behind ≡ []
  read_within behind x y g some long e short =
      elim (skip_grown true x y g false) [
        | inl none ↦ absurd (true≢false (sym (ap (λ t. length t == 0) none) ∙ some))
        | inr goes ↦
            let kept : Kept behind (line (skip_blank x)) (line (skip_blank y)) = line_kept _ _ goes in
            let (w, on, is) = rw short at kept in
            let same : (e.0, w) ≡ (expression, rest) = same_Some _ _ (sym is ∙ long) in
            goes_blank false e.1 w on (ap (λ p. skip_blank p.1) same ∙ over)
      ]

  within_none : (k : ℕ) → 0 < k → k < count → (mid : Document) → run (first_lines (low + k) text) ≡ Some mid → ⊥
  within_none k some less mid is =
      let all = after_lines low text in
      let (turns, on) = read_behind text low k doc mid front is (omega (arith, room, some, less)) in
      let there = begins_later k some less in
      let (e, later, m, short, made, behind) = long_turn turns doc mid _ there on in
      let whole : k + (count - k) ≡ count = omega (arith, less) in
      let few = line_ends_lf text low k some (omega (arith, room, less)) in
      let g = rw whole at (grown_lines (low == 0) k (count - k) all few) in
      ends_later k some less (read_within _ _ _ g there alone e short)

  none_of : (n : ℕ) → low < n → n < low + count → (o : Option Node) → tree_of (first_lines n text) ≡ o → o ≡ None
  none_of n more less None is = refl
  none_of n more less (Some document) is =
      let k : low + (n - low) ≡ n = omega (arith, more) in
      let (mid, ran) = document_run (first_lines n text) (rw is refl) in
      absurd (within_none (n - low) (omega (arith, more)) (omega (arith, more, less)) mid (rw k ran))

  -- no front that ends within the lines is a document
  pub none_within : NoDocumentBetween text low (low + count)
  none_within n more less = none_of n more less (tree_of (first_lines n text)) refl
