-- The entries of a text, piece by piece.
use Rattle.std.proofs.Common.{◌≡◌, ◌⊎◌, ℕ, zero, suc, ◌+◌, ◌-◌, ◌<◌, ◌≤◌, Bool, true, false, ◌==◌, List, [], ◌∷◌, ◌++◌, length, drop, Some, None, option_and_then, option_map, refl, sym, ap, ◌∙◌, subst, inl, inr, arith, cond, slice_index, append-nil, eqb-true}
use Rattle.std.proofs.lemmas.Bool.{cases_Bool, cases_lt, false≢true, true≢false}
use Rattle.std.proofs.lemmas.Option.{none-some, same_Some}
use Rattle.std.specs.Bool.{OnTrue}
use Rattle.toml_parser.specs.Lexical.{Read, first, skip_blank, skip_from, skip_ws}
use Rattle.toml_parser.specs.Reading.{path_view}
use Rattle.toml_parser.specs.Strings.{Key as Written}
use Rattle.toml.specs.Data.{Data, table}
use Rattle.toml.specs.Tables.{Definition, key_value, std_table, array_table, Document, Expression, close, define, header, open_table}
use Rattle.toml.specs.Parse.{after_byte, ends_line, expression, header_key, keyval, line, lines, skip_bom, val}
use Rattle.nextest_places.specs.Contents.{HoldsOne, definition_view}
use Rattle.nextest_places.specs.Expressions.{parts_under, section_after}
use Rattle.nextest_places.specs.Lines.{after_lines, first_lines, line_count}
use Rattle.nextest_places.specs.Search.{IsDocument, NoDocumentBetween}
use Rattle.nextest_places.specs.Pieces.{is_double, IsClosed, IsPiece, read_lines}
use Rattle.nextest_places.proofs.Documents.{grown_from, not_over, not_over_long}
use Rattle.nextest_places.proofs.FirstLines.{more_left}
use Rattle.nextest_places.proofs.Edits.{define_section, map_some, section_after as next_section}
use Rattle.nextest_places.proofs.GoesOn.{GoesOn, skip_grown}
use Rattle.nextest_places.proofs.Sections.{EndsLf, all_lines, count_after, empty_is}
use Rattle.nextest_places.proofs.Options.{bind_some}
use Rattle.nextest_places.proofs.Told.{IsKind, key_of_end, line_told}
use Rattle.nextest_places.proofs.Walked.{after_both, ahead, blank_goes, document_run, lines_rest, long_turn, more_lines, one_turn, run, start, start_run, step_room, step_shorter, tree_run}
use Rattle.nextest_places.specs.declared.expression.Definition.{Definition as Defined}
use Rattle.nextest_places.specs.declared.entry.Entry.{Entry}
use Rattle.nextest_places.specs.declared.piece.Piece.{Piece}
use Rattle.nextest_places.specs.declared.step.Step.{Step}
use Rattle.nextest_places.specs.declared.step.Step.TheVariants.{Key, Position}
use Rattle.nextest_places.specs.Entries.{Outcome, found, waits, outcome_behind, outcome_of, scan, kind_in}
use Rattle.nextest_places.specs.Index.{IsRight, IsWalked}
use Rattle.nextest_places.specs.Marks.{Mark, State, seen, never, missing, fresh, turn}
use Rattle.nextest_places.specs.Place.{IsPlaceOfPath, is_there_by, text_has}
use Rattle.nextest_places.proofs.Nodes.{at_path}
use Rattle.nextest_places.proofs.Placing.{place_is}
use Rattle.nextest_places.proofs.Standings.{is_seen, state_seen, table_state}
use Rattle.nextest_places.proofs.Tight.{grown_read, none_within, read_behind}
use Rattle.nextest_places.proofs.Turns.{Fits, after, define_turns, kind_of, lines_never, parts_by}

-- the expression that a line is
line_is : (o : Read Expression) (e : Expression × List ℕ)
    → option_and_then (λ p. cond (ends_line (skip_ws p.1)) (Some p) None) o ≡ Some e → o ≡ Some e
line_is None e h = absurd (none-some e h)
line_is (Some p) e h =
    elim (cases_Bool (ends_line (skip_ws p.1))) [
      | inl ends ↦ rw ends at h
      | inr goes ↦ absurd (none-some e (rw goes at h))
    ]

expression_is : (x : List ℕ) (e : Expression × List ℕ) → line x ≡ Some e → expression x ≡ Some e
unfolding line
expression_is x e h = line_is (expression x) e h

-- the kind of an expression, by how its line begins
pair_alone : (key : Written) (p : Data) (rest : List ℕ) (e : Expression × List ℕ) → ((key, key_value p), rest) ≡ e
    → (e.0.1 ≡ std_table) ⊎ (e.0.1 ≡ array_table) → ⊥
pair_alone key p rest e made (inl is) = let value = ap (λ e. e.0.1) made in absurd (cc)
pair_alone key p rest e made (inr is) = let value = ap (λ e. e.0.1) made in absurd (cc)

header_kind : (x : List ℕ) (e : Expression × List ℕ) → expression x ≡ Some e
    → (e.0.1 ≡ std_table) ⊎ (e.0.1 ≡ array_table) → kind_of e.0.1 ≡ kind_in true (is_double x)
unfolding expression
header_kind x e h is =
    elim (cases_Bool (is_double x)) [
      | inl double ↦
          let (k, key_is, h2) = bind_some (header_key (drop 2 x))
          (λ k. option_map (λ rest. ((k.0, array_table), rest)) (after_byte 93 k.1)) e (rw double at h) in
          let (r, byte_is, made) = map_some (λ rest. ((k.0, array_table), rest)) (after_byte 93 k.1) e h2 in
          rw (double, ← made) refl
      | inr single ↦ elim (cases_Bool (first x == 91)) [
        | inl bracket ↦
            let (k, key_is, made) = map_some (λ k. ((k.0, std_table), k.1)) (header_key (drop 1 x)) e
            (rw (single, bracket) at h) in
            rw (single, ← made) refl
        | inr pair ↦
            let (p, pair_is, made) = map_some (λ p. ((p.0.0, key_value p.0.1), p.1)) (keyval (val 80) x) e
            (rw (single, pair) at h) in
            absurd (pair_alone p.0.0 p.0.1 p.1 e made is)
      ]
    ]

kind_told : (x : List ℕ) (e : Expression × List ℕ) (h : Bool) → expression x ≡ Some e → IsKind h e.0.1
    → kind_of e.0.1 ≡ kind_in h (is_double x)
kind_told x e false is kind = let (d, what) = kind in ap kind_of what
kind_told x e true is kind = header_kind x e is kind

-- a document over one expression, which takes these lines whole
record GoesTo (text : List ℕ) (low count : ℕ) (doc last : Document) (key : Written × Bool) (double : Bool)
    : Type 0 where
  next : Document
  what : Definition
  defined : define doc (key.0, what) ≡ Some next
  is_kind : IsKind key.1 what
  kind : kind_of what ≡ kind_in key.1 double
  read : run (first_lines (low + count) text) ≡ Some next
  turns : ℕ
  behind : List ℕ
  on : lines turns next behind ≡ Some last
  none : NoDocumentBetween text low (low + count)

none_inside : (text : List ℕ) (low count : ℕ) → 0 < count → (1 < count → NoDocumentBetween text low (low + count))
    → NoDocumentBetween text low (low + count)
none_inside text low count some long n more less = long (omega (arith, more, less)) n more less

one_turned : (text : List ℕ) (low count : ℕ) (doc last : Document) (key : Written × Bool)
    → run (first_lines low text) ≡ Some doc → run text ≡ Some last → 0 < count → low + count < line_count text
    → HoldsOne (read_lines (low == 0) (first_lines count (after_lines low text))) key
    → (1 < count → skip_blank (read_lines (low == 0) (first_lines 1 (after_lines low text))) ≡ [] → ⊥)
    → (1 < count → skip_blank (after_lines (count - 1) (first_lines count (after_lines low text))) ≡ [] → ⊥)
    → GoesTo text low count doc last key
    (is_double (skip_blank (read_lines (low == 0) (first_lines count (after_lines low text)))))
one_turned text low count doc last key front all some room holds begins ends =
    let there = ahead text low count doc last front all some room in
    let (rest, read, over) = subst (λ t. HoldsOne t key) (sym there.is_here) holds in
    elim (skip_grown true there.here there.more there.goes false) [
      | inl none ↦ absurd (key_of_end (key, rest) (rw none at read))
      | inr goes ↦
          let x = skip_blank there.here in
          let y = skip_blank there.more in
          let (e, next, k, long, made, on) = long_turn there.turns doc last there.more
          (not_over_long x y goes) there.on in
          let told = line_told x y rest key goes read e long in
          let alone : line (skip_blank (read_lines (low == 0) (first_lines count (after_lines low text))))
          ≡ Some (e.0, rest) = rw (← there.is_here) told.alone in
          record {
            next = next;
            what = e.0.1;
            defined = subst (λ k. define doc (k, e.0.1) ≡ Some next) told.is_key made;
            is_kind = told.kind;
            kind = rw (← there.is_here) (kind_told x (e.0, rest) key.1 (expression_is x (e.0, rest) told.alone)
                told.kind);
            read = there.joins next (one_turn there.room doc next there.here rest e.0 (not_over x y goes) told.alone
                made over);
            turns = k;
            behind = e.1;
            on = on;
            none = none_inside text low count some
                (λ long. none_within text low count doc e.0 rest front (omega (arith, room)) alone over
                (begins long) (ends long));
          }
    ]

-- the end of a document
blank_end : (n : ℕ) (doc last : Document) (y : List ℕ) → lines n doc y ≡ Some last → skip_blank y ≡ [] → doc ≡ last
unfolding lines
blank_end zero doc last y h over = absurd (none-some last h)
blank_end (suc n) doc last y h over = same_Some doc last (rw over at h)

last_run : (text : List ℕ) (high : ℕ) (next last : Document) → after_lines high text ≡ [] → run text ≡ Some last
    → next ≡ last → run (first_lines high text) ≡ Some next
last_run text high next last over all is =
    let whole : first_lines high text ≡ text =
    sym (append-nil (first_lines high text)) ∙ rw over at (lines_rest high text) in
    ap run whole ∙ all ∙ ap Some (sym is)

-- the lines at the end of a text, which end with a newline
last_turned : (text : List ℕ) (low count : ℕ) (doc last : Document) (key : Written × Bool)
    → run (first_lines low text) ≡ Some doc → run text ≡ Some last → 0 < count → low + count ≤ line_count text
    → after_lines (low + count) text ≡ [] → EndsLf count (after_lines low text)
    → HoldsOne (read_lines (low == 0) (first_lines count (after_lines low text))) key
    → (1 < count → skip_blank (read_lines (low == 0) (first_lines 1 (after_lines low text))) ≡ [] → ⊥)
    → (1 < count → skip_blank (after_lines (count - 1) (first_lines count (after_lines low text))) ≡ [] → ⊥)
    → GoesTo text low count doc last key
    (is_double (skip_blank (read_lines (low == 0) (first_lines count (after_lines low text)))))
last_turned text low count doc last key front all some room none closed holds begins ends =
    let here = read_lines (low == 0) (first_lines count (after_lines low text)) in
    let (a, is) = closed in
    let (rest, read, over) = holds in
    let all_lines_run = last_run text (low + count) last last none all refl in
    let (turns, on) = read_behind text low count doc last front all_lines_run (omega (arith, room, some)) in
    let g : GoesOn [] here here = rw is (grown_read (low == 0) (a ++ 10 ∷ []) (a ++ 10 ∷ []) [] (grown_from a [])) in
    elim (skip_grown true here here g false) [
      | inl blank ↦ absurd (key_of_end (key, rest) (rw blank at read))
      | inr goes ↦
          let x = skip_blank here in
          let (e, next, k, long, made, more) = long_turn turns doc last here (not_over_long x x goes) on in
          let told = line_told x x rest key goes read e long in
          let same : (e.0, rest) ≡ e = same_Some _ _ (sym told.alone ∙ long) in
          let behind : skip_blank e.1 ≡ [] = ap (λ e. skip_blank e.1) (sym same) ∙ over in
          record {
            next = next;
            what = e.0.1;
            defined = subst (λ k. define doc (k, e.0.1) ≡ Some next) told.is_key made;
            is_kind = told.kind;
            kind = kind_told x (e.0, rest) key.1 (expression_is x (e.0, rest) told.alone) told.kind;
            read = last_run text (low + count) next last none all (blank_end k next last e.1 more behind);
            turns = k;
            behind = e.1;
            on = more;
            none = none_inside text low count some
                (λ long. none_within text low count doc e.0 rest front room told.alone over (begins long) (ends long));
          }
    ]

last_blank : (text : List ℕ) (low count : ℕ) (doc last : Document) → run (first_lines low text) ≡ Some doc
    → run text ≡ Some last → 0 < count → low + count ≤ line_count text → after_lines (low + count) text ≡ []
    → skip_blank (read_lines (low == 0) (first_lines count (after_lines low text))) ≡ []
    → run (first_lines (low + count) text) ≡ Some doc
last_blank text low count doc last front all some room none blank =
    let whole = last_run text (low + count) last last none all refl in
    let (turns, on) = read_behind text low count doc last front whole (omega (arith, room, some)) in
    last_run text (low + count) doc last none all (blank_end turns doc last _ on blank)

-- how a path stands, as a fact of the first lines
there_is : (text : List ℕ) (n : ℕ) (doc : Document) (path : List Step) → run (first_lines n text) ≡ Some doc
    → is_there_by path text n ≡ is_seen (table_state path doc.0)
there_is text n doc path h =
    let node = tree_run (first_lines n text) doc h in
    rw node (at_path path (table (close doc.0)) ∙ sym (state_seen path (open_table header doc.0)))

text_is : (text : List ℕ) (doc : Document) (path : List Step) → run text ≡ Some doc
    → text_has path text ≡ is_seen (table_state path doc.0)
text_is text doc path h =
    let node = tree_run text doc h in
    rw node (at_path path (table (close doc.0)) ∙ sym (state_seen path (open_table header doc.0)))

-- an outcome that tells how a path is in a document
abbrev pub Right : List Step → List ℕ → Document → Outcome → Type 0
Right path text doc (found lines) = IsPlaceOfPath path text lines
Right path text doc (waits ms) = table_state path doc.0 ≡ missing ms

-- the entries of the first lines of a text, and the section behind them
pub record IsAt (text : List ℕ) (low : ℕ) (entries : List Entry) (section : List (List ℕ)) : Type 0 where
  pub doc : Document
  pub last : Document
  pub front : run (first_lines low text) ≡ Some doc
  pub all : run text ≡ Some last
  pub is_section : doc.1 ≡ section
  pub within : low ≤ line_count text
  pub right : (path : List Step) → (length path == 0) ≡ false → is_seen (table_state path last.0) ≡ true
      → Right path text doc (scan entries (waits (fresh path)))

not_never : (path : List Step) (n : ℕ) (doc last : Document) (y : List ℕ) → lines n doc y ≡ Some last
    → is_seen (table_state path last.0) ≡ true → table_state path doc.0 ≡ never → ⊥
not_never path n doc last y h there none =
    false≢true (sym (ap is_seen (lines_never path n doc last y h none)) ∙ there)

begins_missing : (path : List Step) (last : Document) (n : ℕ) (y : List ℕ) → (length path == 0) ≡ false
    → lines n start y ≡ Some last → is_seen (table_state path last.0) ≡ true
    → table_state path start.0 ≡ missing (fresh path)
begins_missing [] last n y some h there = absurd (true≢false some)
begins_missing (Key k ∷ path) last n y some h there = refl
begins_missing (Position i ∷ path) last n y some h there =
    absurd (not_never (Position i ∷ path) n start last y h there refl)

-- before the first line
pub at_start : (text : List ℕ) → IsDocument text (line_count text) → IsAt text 0 [] []
at_start text whole =
    let (last, all) = document_run text (rw (all_lines text 0 (line_count text) (omega arith)) at whole) in
    let (doc, none) = document_run [] (empty_is text) in
    let is : start ≡ doc = start_run doc none in
    record {
      doc = start;
      last = last;
      front = none ∙ ap Some (sym is);
      all = all;
      is_section = refl;
      within = omega arith;
      right = λ path more there. begins_missing path last (suc (length text)) (skip_bom text) more all there;
    }

-- over blank lines
at_blank : (text : List ℕ) (low high : ℕ) (entries : List Entry) (section : List (List ℕ))
    → (here : IsAt text low entries section) → high ≤ line_count text → run (first_lines high text) ≡ Some here.doc
    → IsAt text high entries section
at_blank text low high entries section here room front = record {
  doc = here.doc;
  last = here.last;
  front = front;
  all = here.all;
  is_section = here.is_section;
  within = room;
  right = here.right;
}

scan_last : (entries : List Entry) (entry : Entry) (o : Outcome)
    → scan (entries ++ entry ∷ []) o ≡ outcome_behind entry (scan entries o)
scan_last [] entry o = refl
scan_last (e ∷ entries) entry o = scan_last entries entry (outcome_behind e o)

module _ (text : List ℕ) (low high : ℕ) (doc next : Document) (path : List Step)
    (front : run (first_lines low text) ≡ Some doc) (read : run (first_lines high text) ≡ Some next)
    (less : low < high) (none : NoDocumentBetween text low high)
    (here : table_state path next.0 ≡ never → ⊥) where
  -- what the lines bring has its place there
  placed : is_seen (table_state path doc.0) ≡ false → is_seen (table_state path next.0) ≡ true
      → IsPlaceOfPath path text (record { first = low + 1; last = high })
  placed before behind =
      place_is path text low high less (rw (tree_run (first_lines low text) doc front) refl)
      (there_is text low doc path front ∙ before) (there_is text high next path read ∙ behind) none

  by_turn : (ms : List Mark) (s : State) → table_state path doc.0 ≡ missing ms → table_state path next.0 ≡ s
      → Right path text next (outcome_of (record { first = low + 1; last = high }) ms s)
  by_turn ms seen was is = placed (ap is_seen was) (ap is_seen is)
  by_turn ms never was is = absurd (here is)
  by_turn ms (missing more) was is = is

  fits_is : (s : State) → Fits s (table_state path next.0) → table_state path next.0 ≡ s
  fits_is s (inl is) = is
  fits_is s (inr none) = absurd (here none)

  behind_entry : (entry : Entry) (o : Outcome) → entry.lines ≡ record { first = low + 1; last = high }
      → Fits (after entry.kind (path_view entry.parts.items) (table_state path doc.0)) (table_state path next.0)
      → Right path text doc o → Right path text next (outcome_behind entry o)
  behind_entry entry (found lines) is fits right = right
  behind_entry entry (waits ms) is fits right =
      let s = turn entry.kind (path_view entry.parts.items) ms in
      let turned : table_state path next.0 ≡ s = fits_is s (rw right at fits) in
      subst (λ lines. Right path text next (outcome_of lines ms s)) (sym is) (by_turn ms s right turned)

parts_are : (section : List (List ℕ)) (key : Written × Bool) (what : Definition) → IsKind key.1 what
    → parts_by section key.0 what ≡ parts_under section key
parts_are section (key, true) what (inl is) = ap (parts_by section key) is
parts_are section (key, true) what (inr is) = ap (parts_by section key) is
parts_are section (key, false) what (d, is) = ap (parts_by section key) is

section_is : (section : List (List ℕ)) (key : Written × Bool) (what : Definition) → IsKind key.1 what
    → next_section section key.0 what ≡ section_after section key
section_is section (key, true) what (inl is) = ap (next_section section key) is
section_is section (key, true) what (inr is) = ap (next_section section key) is
section_is section (key, false) what (d, is) = ap (next_section section key) is

-- over one expression
at_entry : (text : List ℕ) (low count : ℕ) (entries : List Entry) (section : List (List ℕ)) (entry : Entry)
    (key : Written × Bool) (double : Bool) (here : IsAt text low entries section) → 0 < count
    → low + count ≤ line_count text → GoesTo text low count here.doc here.last key double
    → entry.kind ≡ kind_in key.1 double → path_view entry.parts.items ≡ parts_under section key
    → entry.lines ≡ record { first = low + 1; last = low + count }
    → IsAt text (low + count) (entries ++ entry ∷ []) (section_after section key)
at_entry text low count entries section entry key double here some room goes kind parts place =
    let turns = define_turns here.doc goes.next key.0 goes.what goes.defined in
    let kinds : kind_of goes.what ≡ entry.kind = goes.kind ∙ sym kind in
    let all_parts : parts_by here.doc.1 key.0 goes.what ≡ path_view entry.parts.items =
    parts_are here.doc.1 key goes.what goes.is_kind ∙ ap (λ s. parts_under s key) here.is_section ∙ sym parts in
    record {
      doc = goes.next;
      last = here.last;
      front = goes.read;
      all = here.all;
      is_section = define_section here.doc goes.next (key.0, goes.what) goes.defined ∙ section_is here.doc.1 key goes.what goes.is_kind
          ∙ ap (λ s. section_after s key) here.is_section;
      within = room;
      right = λ path more there.
          rw (scan_last entries entry (waits (fresh path)))
          (behind_entry text low (low + count) here.doc goes.next path here.front goes.read (omega (arith, some))
          goes.none
          (not_never path goes.turns goes.next here.last goes.behind goes.on there) entry
          (scan entries (waits (fresh path))) place (rw (kinds, all_parts) at (turns path))
          (here.right path more there));
    }

right_by : (path : List Step) (text : List ℕ) (low : ℕ) (doc : Document) (o : Outcome)
    → run (first_lines low text) ≡ Some doc → Right path text doc o → IsRight path text low o
right_by path text low doc (found lines) front right = right
right_by path text low doc (waits ms) front right = there_is text low doc path front ∙ ap is_seen right

-- what the entries tell in the end
pub walked : (text : List ℕ) (low : ℕ) (entries : List Entry) (section : List (List ℕ))
    → IsAt text low entries section → IsWalked text entries low
walked text low entries section here = record {
  within = here.within;
  front = rw (tree_run (first_lines low text) here.doc here.front) refl;
  right = λ path more has.
      right_by path text low here.doc (scan entries (waits (fresh path))) here.front
      (here.right path more (sym (text_is text here.last path here.all) ∙ has));
}

pub not_empty : (text : List ℕ) → (length text == 0) ≡ false → text ≡ [] → ⊥
not_empty [] some none = absurd (true≢false some)
not_empty (c ∷ cs) some none = absurd (cc)

not_short : (text : List ℕ) → (text ≡ [] → ⊥) → 0 < length text
not_short [] some = absurd (some refl)
not_short (c ∷ cs) some = omega arith

one_more : (c : ℕ) (text a : List ℕ) → text ≡ a ++ 10 ∷ [] → (b : List ℕ) × (c ∷ text ≡ b ++ 10 ∷ [])
one_more c text a is = (c ∷ a, ap (λ t. c ∷ t) is)

ends_newline : (text : List ℕ) → slice_index text (length text - 1) ≡ 10 → (text ≡ [] → ⊥)
    → (a : List ℕ) × (text ≡ a ++ 10 ∷ [])
ends_newline [] is some = absurd (some refl)
ends_newline (c ∷ []) is some = ([], ap (λ d. d ∷ []) is)
ends_newline (c ∷ d ∷ cs) is some =
    let less : length (c ∷ d ∷ cs) - 1 ≡ suc (length (d ∷ cs) - 1) = omega arith in
    let (a, same) = ends_newline (d ∷ cs) (rw less at is) (not_empty (d ∷ cs) (more_left d cs)) in
    one_more c (d ∷ cs) a same

pub closed_by : (text behind : List ℕ) (byte : ℕ) → byte ≡ slice_index text (length text - 1)
    → (length text == 0) ≡ false
    → OnTrue (byte == 10) (IsClosed text behind)
closed_by text behind byte is some =
    elim (cases_Bool (byte == 10)) [
      | inl lf ↦ rw lf (λ none. ends_newline text (sym is ∙ eqb-true byte 10 lf) (not_empty text some))
      | inr other ↦ rw other tt
    ]

-- there are as many lines as a piece takes
none_behind : (n : ℕ) (text behind : List ℕ) → after_lines n text ≡ behind → line_count text ≤ n → behind ≡ []
none_behind n text [] is few = refl
none_behind n text (c ∷ cs) is few =
    let some : after_lines n text ≡ [] → ⊥ = λ none. let same : c ∷ cs ≡ [] = sym is ∙ none in absurd (cc) in
    absurd (omega (arith, few, more_lines n text 0 some))

skip_none : skip_blank [] ≡ []
unfolding skip_from
skip_none = refl

piece_lines : (is_start : Bool) (rest : List ℕ) (piece : Piece) → IsPiece is_start rest piece → (rest ≡ [] → ⊥)
    → piece.count ≤ line_count rest
piece_lines is_start rest piece is some =
    elim (cases_lt 1 piece.count) [
      | inr short ↦ omega (arith, short, more_lines 0 rest 0 some)
      | inl long ↦ elim (cases_lt (line_count rest) piece.count) [
        | inr room ↦ omega (arith, room)
        | inl few ↦
            let whole : first_lines piece.count rest ≡ rest = all_lines rest 0 piece.count (omega (arith, few)) in
            let none : after_lines (piece.count - 1) rest ≡ [] =
            none_behind (piece.count - 1) rest (after_lines (piece.count - 1) rest) refl (omega (arith, few, long)) in
            absurd (is.ends long (ap skip_blank (ap (after_lines (piece.count - 1)) whole ∙ none) ∙ skip_none))
      ]
    ]

pub piece_room : (text rest : List ℕ) (low : ℕ) (piece : Piece) → rest ≡ after_lines low text
    → IsPiece (low == 0) rest piece → (rest ≡ [] → ⊥) → low ≤ line_count text → low + piece.count ≤ line_count text
piece_room text rest low piece rest_is is some within =
    let lines = piece_lines (low == 0) rest piece is some in
    let all = count_after low text 0 0 within in
    omega (arith, lines, all, ap line_count rest_is)

-- a piece, as it is found behind some lines
module _ (text rest : List ℕ) (low : ℕ) (piece : Piece) (entries : List Entry) (section : List (List ℕ))
    (rest_is : rest ≡ after_lines low text) (piece_is : IsPiece (low == 0) rest piece)
    (some : rest ≡ [] → ⊥) (room : low + piece.count ≤ line_count text)
    (closed : IsClosed rest piece.rest.now) where
  pub piece_rest : piece.rest.now ≡ after_lines (low + piece.count) text
  piece_rest = piece_is.rest ∙ ap (after_lines piece.count) rest_is ∙ sym (after_both low piece.count text)

  -- what follows the piece, and nothing
  follows : (behind : List ℕ) → (piece.rest.now ≡ behind)
      → (piece.rest.now ≡ []) ⊎ (after_lines piece.count (after_lines low text) ≡ [] → ⊥)
  follows [] is = inl is
  follows (c ∷ cs) is = inr (λ none.
      let same : c ∷ cs ≡ [] = sym is ∙ piece_is.rest ∙ ap (after_lines piece.count) rest_is ∙ none in absurd (cc))

  further : low ≤ line_count text → (after_lines piece.count (after_lines low text) ≡ [] → ⊥)
      → low + piece.count < line_count text
  further within more = step_room text low piece.count within more

  last_closed : piece.rest.now ≡ [] → EndsLf piece.count (after_lines low text)
  last_closed none =
      let (a, is) = closed none in
      let over : after_lines piece.count (after_lines low text) ≡ [] =
      ap (after_lines piece.count) (sym rest_is) ∙ sym piece_is.rest ∙ none in
      (a, sym (append-nil _) ∙ rw over at (lines_rest piece.count (after_lines low text)) ∙ sym rest_is ∙ is)

  pub piece_shorter : length piece.rest.now < length rest
  piece_shorter = elim (follows piece.rest.now refl) [
    | inl none ↦ rw none (not_short rest some)
    | inr more ↦ rw piece_is.rest
        (step_shorter piece.count rest piece_is.some
        (subst (λ r. after_lines piece.count r ≡ [] → ⊥) (sym rest_is) more))
  ]

  pub over_blank : IsAt text low entries section → piece.definition ≡ None
      → IsAt text (low + piece.count) entries section
  over_blank here none =
      let within = here.within in
      let blank = rw (none, rest_is) at piece_is.holds in
      at_blank text low (low + piece.count) entries section here room (elim (follows piece.rest.now refl) [
        | inl over ↦ last_blank text low piece.count here.doc here.last here.front here.all piece_is.some room
            (sym piece_rest ∙ over) blank
        | inr more ↦ blank_goes text low piece.count here.doc here.last here.front here.all piece_is.some
            (further within more) blank
      ])

  pub over_entry : IsAt text low entries section → (d : Defined) → piece.definition ≡ Some d → (entry : Entry)
      → entry.kind ≡ kind_in d.is_header (is_double (skip_blank piece.lines.now))
      → path_view entry.parts.items ≡ parts_under section (definition_view d)
      → entry.lines ≡ record { first = low + 1; last = low + piece.count }
      → IsAt text (low + piece.count) (entries ++ entry ∷ []) (section_after section (definition_view d))
  over_entry here d is entry kind parts place =
      let within = here.within in
      let holds = rw (is, rest_is) at piece_is.holds in
      let begins = rw rest_is at piece_is.begins in
      let ends = rw rest_is at piece_is.ends in
      let read : piece.lines.now ≡ read_lines (low == 0) (first_lines piece.count (after_lines low text)) =
      piece_is.lines ∙ ap (λ t. read_lines (low == 0) (first_lines piece.count t)) rest_is in
      at_entry text low piece.count entries section entry (definition_view d) _ here piece_is.some room
      (elim (follows piece.rest.now refl) [
        | inl over ↦ last_turned text low piece.count here.doc here.last (definition_view d) here.front here.all
            piece_is.some room (sym piece_rest ∙ over) (last_closed over) holds begins ends
        | inr more ↦ one_turned text low piece.count here.doc here.last (definition_view d) here.front here.all
            piece_is.some (further within more) holds begins ends
      ])
      (kind ∙ ap (λ t. kind_in d.is_header (is_double (skip_blank t))) read) parts place
