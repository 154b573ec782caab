-- How a document goes on over the next lines of its text.
use Rattle.std.proofs.Common.{◌≡◌, ℕ, zero, suc, ◌+◌, ◌<◌, ◌≤◌, true, false, ◌==◌, ◌||◌, List, [], ◌∷◌, ◌++◌, length, Option, Some, None, option_map, option_and_then, is_some, refl, sym, ap, ◌∙◌, inl, inr, arith, append_assoc}
use Rattle.std.proofs.lemmas.Bool.{cases_Bool, false≢true}
use Rattle.std.proofs.lemmas.Bool.Decides.{nat_tests}
use Rattle.std.proofs.lemmas.List.{length-append}
use Rattle.std.proofs.lemmas.Option.{none-some, same_Some}
use Rattle.toml.proofs.OnLiterals.{toml_on_literals}
use Rattle.toml_parser.specs.Lexical.{skip_blank}
use Rattle.toml.specs.Data.{Members}
use Rattle.toml.specs.Tables.{Document, Expression, close, define, no_nodes}
use Rattle.toml.specs.Parse.{line, lines, parse_document, skip_bom}
use Rattle.nextest_tree.specs.Node.{Node, table}
use Rattle.nextest_documents.specs.Text.{tree_of}
use Rattle.nextest_documents.specs.Value.{from_members}
use Rattle.nextest_places.specs.Lines.{after_lines, first_lines, line_count, line_ends}
use Rattle.nextest_places.specs.Pieces.{read_lines}
use Rattle.nextest_places.proofs.Documents.{bom_grown, grown_from}
use Rattle.nextest_places.proofs.FirstLines.{more_left}
use Rattle.nextest_places.proofs.GoesOn.{GoesOn}
use Rattle.nextest_places.proofs.Joined.{joined_runs, split_runs}
use Rattle.nextest_places.proofs.Options.{bind_some}
use Rattle.nextest_places.proofs.Sections.{count_after, ends_lf, lines_join, some_line}

-- the node of a table's members
abbrev pub node_of : Members → Node
node_of ms = table (from_members ms)

abbrev pub start : Document
start = (no_nodes, [])

-- the document after a text
abbrev pub run : List ℕ → Option Document
run text = lines (suc (length text)) start (skip_bom text)

pub tree_run : (text : List ℕ) (doc : Document) → run text ≡ Some doc → tree_of text ≡ Some (node_of (close doc.0))
unfolding parse_document
tree_run text doc h = ap (λ o. option_map (λ ms. node_of ms) (option_map (λ d. close d.0) o)) h

ran_some : (o : Option Document) → is_some (option_map (λ ms. node_of ms) (option_map (λ doc. close doc.0) o)) ≡ true
    → (doc : Document) × (o ≡ Some doc)
ran_some None h = absurd (false≢true h)
ran_some (Some doc) h = (doc, refl)

pub document_run : (text : List ℕ) → is_some (tree_of text) ≡ true → (doc : Document) × (run text ≡ Some doc)
unfolding parse_document
document_run text h = ran_some (run text) h

pub start_run : (doc : Document) → run [] ≡ Some doc → start ≡ doc
unfolding toml_on_literals
start_run doc h = same_Some start doc h

-- some lines, and those behind them, are the text
pub lines_rest : (n : ℕ) (text : List ℕ) → first_lines n text ++ after_lines n text ≡ text
lines_rest zero text = refl
lines_rest (suc n) [] = refl
lines_rest (suc n) (c ∷ cs) =
    elim (cases_Bool (c == 10)) [
      | inl lf ↦ rw lf (ap (λ t. c ∷ t) (lines_rest n cs))
      | inr other ↦ rw other (ap (λ t. c ∷ t) (lines_rest (suc n) cs))
    ]

pub after_both : (n k : ℕ) (text : List ℕ) → after_lines (n + k) text ≡ after_lines k (after_lines n text)
after_both zero k text = let same : 0 + k ≡ k = omega arith in rw same refl
after_both (suc n) zero [] = let same : suc n + 0 ≡ suc n = omega arith in rw same refl
after_both (suc n) (suc k) [] = let next : suc n + suc k ≡ suc (n + suc k) = omega arith in rw next refl
after_both (suc n) k (c ∷ cs) =
    let next : suc n + k ≡ suc (n + k) = omega arith in
    elim (cases_Bool (c == 10)) [
      | inl lf ↦ rw (next, lf) (after_both n k cs)
      | inr other ↦ rw (next, other) (rw next at (after_both (suc n) k cs))
    ]

-- the next lines of a document, and how it goes on over them: `here` is what is read of them
pub record Ahead (text : List ℕ) (low count : ℕ) (doc last : Document) : Type 0 where
  pub here : List ℕ
  pub more : List ℕ
  pub is_here : here ≡ read_lines (low == 0) (first_lines count (after_lines low text))
  pub goes : GoesOn (after_lines count (after_lines low text)) here more
  pub turns : ℕ
  pub on : lines turns doc more ≡ Some last
  pub room : ℕ
  pub joins : (next : Document) → lines (suc (suc room)) doc here ≡ Some next
      → run (first_lines (low + count) text) ≡ Some next

ahead_first : (text c d : List ℕ) (count : ℕ) (doc last : Document) → run [] ≡ Some doc → run text ≡ Some last
    → first_lines count text ≡ c ++ 10 ∷ [] → after_lines count text ≡ d → text ≡ c ++ 10 ∷ d
    → Ahead text 0 count doc last
ahead_first text c d count doc last front all lines_are rest_is is =
    let none = start_run doc front in
    let none_before : 0 + count ≡ count = omega arith in
    let size : length (c ++ 10 ∷ []) ≡ suc (length c) = omega (arith, length-append c (10 ∷ [])) in
    record {
      here = skip_bom (c ++ 10 ∷ []);
      more = skip_bom (c ++ 10 ∷ d);
      is_here = rw lines_are refl;
      goes = rw rest_is (bom_grown _ _ (grown_from c d));
      turns = suc (length text);
      on = rw (← none, ← is) all;
      room = length c;
      joins = λ next h. rw (none_before, lines_are, size) (rw (← none) at h);
    }

ahead_next : (text a c d : List ℕ) (l count : ℕ) (doc last : Document) → run (first_lines (suc l) text) ≡ Some doc
    → run text ≡ Some last → first_lines (suc l) text ≡ a ++ 10 ∷ []
    → first_lines count (after_lines (suc l) text) ≡ c ++ 10 ∷ []
    → after_lines count (after_lines (suc l) text) ≡ d → text ≡ a ++ 10 ∷ (c ++ 10 ∷ d)
    → Ahead text (suc l) count doc last
ahead_next text a c d l count doc last front all front_is lines_are rest_is is =
    let front_run : run (a ++ 10 ∷ []) ≡ Some doc = rw (← front_is) front in
    let all_run : run (a ++ 10 ∷ (c ++ 10 ∷ d)) ≡ Some last = rw (← is) all in
    let (k, on) = split_runs _ _ start doc last _ _ (bom_grown _ _ (grown_from a (c ++ 10 ∷ d))) front_run all_run in
    let some : (suc l == 0) ≡ false = grind (arith, nat_tests) in
    let size : length (c ++ 10 ∷ []) ≡ suc (length c) = omega (arith, length-append c (10 ∷ [])) in
    let turns : suc (length (a ++ 10 ∷ [])) + suc (length c) ≡ suc (length (a ++ 10 ∷ (c ++ 10 ∷ []))) =
    omega (arith, size, length-append a (10 ∷ []), length-append a (10 ∷ (c ++ 10 ∷ []))) in
    let both : first_lines (suc l + count) text ≡ a ++ 10 ∷ (c ++ 10 ∷ []) =
    lines_join (suc l) count text ∙ rw (front_is, lines_are) (append_assoc a (10 ∷ []) (c ++ 10 ∷ [])) in
    record {
      here = c ++ 10 ∷ [];
      more = c ++ 10 ∷ d;
      is_here = rw (some, lines_are) refl;
      goes = rw rest_is (grown_from c d);
      turns = k;
      on = on;
      room = length c;
      joins = λ next h. rw (both, ← turns) (joined_runs _ (suc (length c)) start doc next _ _
          (bom_grown _ _ (grown_from a (c ++ 10 ∷ []))) front_run h);
    }

pub ahead : (text : List ℕ) (low count : ℕ) (doc last : Document) → run (first_lines low text) ≡ Some doc
    → run text ≡ Some last → 0 < count → low + count < line_count text → Ahead text low count doc last
ahead text low zero doc last front all some room = absurd (omega (arith, some))
ahead text zero (suc m) doc last front all some room =
    let (c, is) = ends_lf m 0 text (omega (arith, room)) in
    let whole = sym (lines_rest (suc m) text) ∙ rw is (append_assoc c (10 ∷ []) (after_lines (suc m) text)) in
    ahead_first text c (after_lines (suc m) text) (suc m) doc last front all is refl whole
ahead text (suc l) (suc m) doc last front all some room =
    let rest = after_lines (suc l) text in
    let left = count_after (suc l) text 0 0 (omega (arith, room)) in
    let (a, front_is) = ends_lf l 0 text (omega (arith, room)) in
    let (c, is) = ends_lf m 0 rest (omega (arith, room, left)) in
    let d = after_lines (suc m) rest in
    let rest_is : rest ≡ c ++ 10 ∷ d = sym (lines_rest (suc m) rest) ∙ rw is (append_assoc c (10 ∷ []) d) in
    let whole : text ≡ a ++ 10 ∷ (c ++ 10 ∷ d) =
    sym (lines_rest (suc l) text) ∙ ap (λ t. t ++ rest) front_is ∙ append_assoc a (10 ∷ []) rest
    ∙ ap (λ t. a ++ 10 ∷ t) rest_is in
    ahead_next text a c d l (suc m) doc last front all front_is is refl whole

pub blank_turn : (n : ℕ) (doc : Document) (x : List ℕ) → skip_blank x ≡ [] → lines (suc n) doc x ≡ Some doc
unfolding lines
blank_turn n doc x h = rw h refl

-- blank lines leave a document as it is
pub blank_goes : (text : List ℕ) (low count : ℕ) (doc last : Document) → run (first_lines low text) ≡ Some doc
    → run text ≡ Some last → 0 < count → low + count < line_count text
    → skip_blank (read_lines (low == 0) (first_lines count (after_lines low text))) ≡ []
    → run (first_lines (low + count) text) ≡ Some doc
blank_goes text low count doc last front all some room blank =
    let there = ahead text low count doc last front all some room in
    there.joins doc (blank_turn (suc there.room) doc there.here (ap skip_blank there.is_here ∙ blank))

pub one_turn : (n : ℕ) (doc next : Document) (x rest : List ℕ) (e : Expression) → (length (skip_blank x) == 0) ≡ false
    → line (skip_blank x) ≡ Some (e, rest) → define doc e ≡ Some next → skip_blank rest ≡ []
    → lines (suc (suc n)) doc x ≡ Some next
unfolding lines
one_turn n doc next x rest e some is made over = rw (some, is, made, over) refl

pub long_turn : (n : ℕ) (doc last : Document) (y : List ℕ) → (length (skip_blank y) == 0) ≡ false
    → lines n doc y ≡ Some last
    → (e : Expression × List ℕ) × (next : Document) × (k : ℕ) × (line (skip_blank y) ≡ Some e)
    × (define doc e.0 ≡ Some next) × (lines k next e.1 ≡ Some last)
unfolding lines
long_turn zero doc last y some h = absurd (none-some last h)
long_turn (suc n) doc last y some h =
    let (e, is, more) = bind_some (line (skip_blank y))
    (λ e. option_and_then (λ next. lines n next e.1) (define doc e.0)) last (rw some at h) in
    let (next, made, on) = bind_some (define doc e.0) (λ next. lines n next e.1) last more in
    (e, next, n, is, made, on)

-- how many lines follow, by what follows some of them
pub ends_within : (text : List ℕ) (s : ℕ) → length (line_ends s text) ≤ length text
ends_within [] s = omega arith
ends_within (c ∷ cs) s =
    let more = ends_within cs (s + 1) in
    elim (cases_Bool (c == 10 || length cs == 0)) [
      | inl ends ↦ rw ends (omega (arith, more))
      | inr goes ↦ rw goes (omega (arith, more))
    ]

none_after : (n : ℕ) → after_lines n [] ≡ []
none_after zero = refl
none_after (suc n) = refl

pub more_lines : (n : ℕ) (text : List ℕ) (s : ℕ) → (after_lines n text ≡ [] → ⊥) → n < length (line_ends s text)
more_lines zero [] s h = absurd (h refl)
more_lines zero (c ∷ cs) s h = some_line c cs s
more_lines (suc n) [] s h = absurd (h refl)
more_lines (suc n) (c ∷ []) s h =
    elim (cases_Bool (c == 10)) [
      | inl lf ↦ absurd ((rw lf at h) (none_after n))
      | inr other ↦ absurd ((rw other at h) refl)
    ]
more_lines (suc n) (c ∷ d ∷ cs) s h =
    elim (cases_Bool (c == 10)) [
      | inl lf ↦ rw lf (omega (arith, more_lines n (d ∷ cs) (s + 1) (rw lf at h)))
      | inr other ↦ rw (other, more_left d cs) (more_lines (suc n) (d ∷ cs) (s + 1) (rw other at h))
    ]

-- where text follows some lines, it is shorter, and they are not all lines
pub step_shorter : (n : ℕ) (text : List ℕ) → 0 < n → (after_lines n text ≡ [] → ⊥)
    → length (after_lines n text) < length text
step_shorter zero text some h = absurd (omega (arith, some))
step_shorter (suc n) [] some h = absurd (h refl)
step_shorter (suc n) (c ∷ cs) some h =
    elim (cases_Bool (c == 10)) [
      | inl lf ↦ rw lf (let whole = ap length (lines_rest n cs) in
          omega (arith, whole, length-append (first_lines n cs) (after_lines n cs)))
      | inr other ↦ rw other (let whole = ap length (lines_rest (suc n) cs) in
          omega (arith, whole, length-append (first_lines (suc n) cs) (after_lines (suc n) cs)))
    ]

pub step_room : (text : List ℕ) (low count : ℕ) → low ≤ line_count text
    → (after_lines count (after_lines low text) ≡ [] → ⊥) → low + count < line_count text
step_room text low count within h =
    let rest = after_lines low text in
    omega (arith, count_after low text 0 0 within, more_lines count rest 0 h)
