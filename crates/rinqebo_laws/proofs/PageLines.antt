-- Pages have the line feeds of their pieces.
use Rattle.std.proofs.Common.{◌≡◌, ◌≢◌, ◌<◌, ◌≤◌, ◌+◌, ◌%◌, inl, inr, ⊎_elim, ℕ, Bool, true, false, cond, List, [], ◌∷◌, ◌++◌, codes, decimal, flat_map, length, replicate, string_bytes, refl, sym, ap, ap₂, ◌∙◌, true≢false, arith}
use Rattle.std.proofs.lemmas.Bool.Decides.{nat_tests}
use Rattle.std.proofs.lemmas.Grind.{flat_map-append}
use Rattle.std.proofs.lemmas.List.Sums.{sum_by-append, sum_by-cons}
use Rattle.std.specs.Char.{encode_utf8, is_control}
use Rattle.std.specs.Fmt.{digit_glyph, digits}
use Rattle.std.specs.List.{AllByRecursion}
use Rattle.std.specs.Str.{chars}
use Rattle.rinqebo_laws.proofs.Encoded.{digits_all, passing, written_append, written_ascii, written_bytes, written_each, written_nil, written_one, written_weaker}
use Rattle.rinqebo_laws.proofs.OneLine.{feeds-append, no_feeds, one_more}
use Rattle.rinqebo_laws.specs.Lines.{HasNo, IsOneLine, IsPageCharacter, IsPlainByte, IsTextCharacter, IsWrittenIn, carriage_return, ends_line, line_ends, line_feed, line_feeds}
use Rattle.nextest_documents.proofs.Lists.{all_map}
use Rattle.rinqebo_report.specs.Pages.{concise_line_runs, concise_runs, head_line_runs}
use Rattle.rinqebo_report.specs.Pieces.{Run, styled, repeated, numbered, ending, escape_of, is_printable_byte, shown_char, shown_text, painted_text, painted, page_text}
use Rattle.rinqebo_report.specs.declared.finding.Finding.{Finding}
use Rattle.rinqebo_report.specs.declared.origin.Source.{Source}
use Rattle.rinqebo_report.specs.declared.piece.Colour.{Colour}
use Rattle.rinqebo_report.specs.declared.piece.Colour.TheVariants as colours
use Rattle.rinqebo_report.specs.declared.piece.Style.{Style}
use Rattle.rinqebo_report.specs.declared.piece.Style.TheVariants as styles
use Rattle.rinqebo_report.specs.declared.report.Report.{Report}

-- a character that is no control character
abbrev IsInk : ℕ → Type 0
IsInk c = is_control c ≡ false

abbrev Prints : ℕ → Type 0
Prints b = is_printable_byte b ≡ true

small : (b : ℕ) → Prints b → b < 128
small b h = grind (arith, nat_tests)

ink : (b : ℕ) → Prints b → IsInk b
ink b h = grind (arith, nat_tests)

printed : (bs : List ℕ) → AllByRecursion Prints bs → IsWrittenIn IsInk bs
printed bs h = written_ascii IsInk bs (all_map Prints (λ b. b < 128) bs small h) (all_map Prints IsInk bs ink h)

glyph_prints : (n : ℕ) → n < 16 → Prints (digit_glyph false n)
glyph_prints n h = grind (arith, nat_tests)

digits_ink : (n : ℕ) → IsWrittenIn IsInk (digits 16 false n)
digits_ink n = printed (digits 16 false n) (digits_all Prints 16 (λ n. glyph_prints (n % 16) (omega arith)) n)

decimal_ink : (n : ℕ) → IsWrittenIn IsInk (decimal n)
decimal_ink n = printed (decimal n) (digits_all Prints 10 (λ n. glyph_prints (n % 10) (omega arith)) n)

escape_ink : (c : ℕ) → IsWrittenIn IsInk (escape_of c)
escape_ink c =
    written_append IsInk (92 ∷ codes "u{") (digits 16 false c ++ codes "}")
    (printed (92 ∷ codes "u{") (passing is_printable_byte (92 ∷ codes "u{") refl))
    (written_append IsInk (digits 16 false c) (codes "}") (digits_ink c)
    (printed (codes "}") (passing is_printable_byte (codes "}") refl)))

-- a character as it is shown
char_ink : (c : ℕ) → IsWrittenIn IsInk (shown_char c)
char_ink c =
    let P : Bool → Type 0 = λ b. is_control c ≡ b → IsWrittenIn IsInk (cond b (escape_of c) (encode_utf8 c)) in
    let cases : (b : Bool) → P b = λ b. elim b as P [
      | true ↦ (λ e. escape_ink c)
      | false ↦ (λ e. written_one IsInk c e)
    ] in
    cases (is_control c) refl

text_ink : (text : List ℕ) → IsWrittenIn IsInk (shown_text text)
text_ink text = written_each IsInk shown_char char_ink (chars text)

on_line : (tint : Colour) (c : ℕ) → IsInk c → IsTextCharacter tint c
on_line colours.Plain c h = h
on_line colours.Coloured c h = inr h

line_ink : (tint : Colour) (text : List ℕ) → IsWrittenIn IsInk text → IsWrittenIn (IsTextCharacter tint) text
line_ink tint text h = written_weaker (IsTextCharacter tint) IsInk (on_line tint) text h

-- a text between the escapes of a style
abbrev IsTinted : ℕ → Type 0
IsTinted = IsTextCharacter colours.Coloured

begins : IsWrittenIn IsTinted (27 ∷ 91 ∷ [])
begins = written_ascii IsTinted (27 ∷ 91 ∷ []) (omega arith, (omega arith, tt)) (inl refl, (inr refl, tt))

printable : (bs : List ℕ) → AllByRecursion Prints bs → IsWrittenIn IsTinted bs
printable bs h = line_ink colours.Coloured bs (printed bs h)

coloured : (code text : List ℕ) → AllByRecursion Prints code
    → IsWrittenIn IsTinted (27 ∷ 91 ∷ (code ++ 109 ∷ (shown_text text ++ 27 ∷ 91 ∷ codes "0m")))
coloured code text h =
    let last : IsWrittenIn IsTinted (27 ∷ 91 ∷ codes "0m") =
    written_append IsTinted (27 ∷ 91 ∷ []) (codes "0m") begins
    (printable (codes "0m") (passing is_printable_byte (codes "0m") refl)) in
    let inner : IsWrittenIn IsTinted (shown_text text ++ 27 ∷ 91 ∷ codes "0m") =
    written_append IsTinted (shown_text text) (27 ∷ 91 ∷ codes "0m")
    (line_ink colours.Coloured (shown_text text) (text_ink text)) last in
    let mark : IsWrittenIn IsTinted (109 ∷ (shown_text text ++ 27 ∷ 91 ∷ codes "0m")) =
    written_append IsTinted (109 ∷ []) (shown_text text ++ 27 ∷ 91 ∷ codes "0m")
    (printable (109 ∷ []) (refl, tt)) inner in
    written_append IsTinted (27 ∷ 91 ∷ []) (code ++ 109 ∷ (shown_text text ++ 27 ∷ 91 ∷ codes "0m")) begins
    (written_append IsTinted code (109 ∷ (shown_text text ++ 27 ∷ 91 ∷ codes "0m")) (printable code h) mark)

painted_line : (tint : Colour) (style : Style) (text : List ℕ)
    → IsWrittenIn (IsTextCharacter tint) (painted_text tint style text)
painted_line colours.Plain style text = text_ink text
painted_line colours.Coloured styles.Plain text = line_ink colours.Coloured (shown_text text) (text_ink text)
painted_line colours.Coloured styles.Key text =
    coloured (codes "1") text (passing is_printable_byte (codes "1") refl)
painted_line colours.Coloured styles.Remark text =
    coloured (codes "2") text (passing is_printable_byte (codes "2") refl)
painted_line colours.Coloured styles.Good text =
    coloured (codes "32") text (passing is_printable_byte (codes "32") refl)
painted_line colours.Coloured styles.Error text =
    coloured (codes "1;31") text (passing is_printable_byte (codes "1;31") refl)
painted_line colours.Coloured styles.Warning text =
    coloured (codes "1;33") text (passing is_printable_byte (codes "1;33") refl)
painted_line colours.Coloured styles.Help text =
    coloured (codes "36") text (passing is_printable_byte (codes "36") refl)

each_ink : (c n : ℕ) → IsWrittenIn IsInk (flat_map shown_char (replicate n c))
each_ink c n = written_each IsInk shown_char char_ink (replicate n c)

-- no character on a line ends it
ink_no_feed : (c : ℕ) → IsInk c → c ≢ line_feed
ink_no_feed c h = λ e. true≢false (sym (ap is_control e) ∙ h)

ink_no_return : (c : ℕ) → IsInk c → c ≢ carriage_return
ink_no_return c h = λ e. true≢false (sym (ap is_control e) ∙ h)

no_feed : (tint : Colour) (c : ℕ) → IsTextCharacter tint c → c ≢ line_feed
no_feed colours.Plain c h = ink_no_feed c h
no_feed colours.Coloured c h =
    ⊎_elim (λ (is : c ≡ 27). λ (e : c ≡ line_feed). absurd (omega arith)) (ink_no_feed c) h

no_return : (tint : Colour) (c : ℕ) → IsTextCharacter tint c → c ≢ carriage_return
no_return colours.Plain c h = ink_no_return c h
no_return colours.Coloured c h =
    ⊎_elim (λ (is : c ≡ 27). λ (e : c ≡ carriage_return). absurd (omega arith)) (ink_no_return c) h

line_has_no_feed : (tint : Colour) (text : List ℕ) → IsWrittenIn (IsTextCharacter tint) text → HasNo line_feed text
line_has_no_feed tint text h =
    written_bytes (IsTextCharacter tint) (λ b. b ≢ line_feed) (λ b high. omega arith) (no_feed tint) text h

line_has_no_return : (tint : Colour) (text : List ℕ) → IsWrittenIn (IsTextCharacter tint) text
    → HasNo carriage_return text
line_has_no_return tint text h =
    written_bytes (IsTextCharacter tint) (λ b. b ≢ carriage_return) (λ b high. omega arith) (no_return tint) text h

-- the line feeds of a page
run_feeds : (tint : Colour) (run : Run) → line_feeds (painted tint run) ≡ cond (ends_line run) 1 0
run_feeds tint (styled style text) =
    no_feeds (painted_text tint style text) (line_has_no_feed tint _ (painted_line tint style text))
run_feeds tint (repeated c n) =
    no_feeds (flat_map shown_char (replicate n c)) (line_has_no_feed colours.Plain _ (each_ink c n))
run_feeds tint (numbered n) = no_feeds (decimal n) (line_has_no_feed colours.Plain _ (decimal_ink n))
run_feeds tint ending = refl

pub page_feeds : (tint : Colour) (runs : List Run) → line_feeds (page_text tint runs) ≡ line_ends runs
page_feeds tint [] = refl
page_feeds tint (run ∷ runs) =
    feeds-append (painted tint run) (page_text tint runs)
    ∙ ap₂ (λ n m. n + m) (run_feeds tint run) (page_feeds tint runs)
    ∙ sym (sum_by-cons (λ r. cond (ends_line r) 1 0) run runs)

-- the characters of a page
on_page : (tint : Colour) (text : List ℕ) → IsWrittenIn (IsTextCharacter tint) text
    → IsWrittenIn (IsPageCharacter tint) text
on_page tint text h = written_weaker (IsPageCharacter tint) (IsTextCharacter tint) (λ c k. inr k) text h

run_written : (tint : Colour) (run : Run) → IsWrittenIn (IsPageCharacter tint) (painted tint run)
run_written tint (styled style text) = on_page tint _ (painted_line tint style text)
run_written tint (repeated c n) = on_page tint _ (line_ink tint _ (each_ink c n))
run_written tint (numbered n) = on_page tint _ (line_ink tint _ (decimal_ink n))
run_written tint ending = written_ascii (IsPageCharacter tint) (10 ∷ []) (omega arith, tt) (inl refl, tt)

pub page_written : (tint : Colour) (runs : List Run) → IsWrittenIn (IsPageCharacter tint) (page_text tint runs)
page_written tint runs = written_each (IsPageCharacter tint) (painted tint) (run_written tint) runs

-- the bytes of a page without colours
ink_bytes : (c : ℕ) → IsInk c → (32 ≤ c) × (c ≢ 127)
ink_bytes c h = (grind (arith, nat_tests), λ e. true≢false (sym (ap is_control e) ∙ h))

plain_byte : (c : ℕ) → IsPageCharacter colours.Plain c → IsPlainByte c
plain_byte c h =
    ⊎_elim (λ (is : c ≡ line_feed). inl is) (λ (is : is_control c ≡ false). inr (ink_bytes c is)) h

pub page_bytes : (runs : List Run) → AllByRecursion IsPlainByte (page_text colours.Plain runs)
page_bytes runs =
    written_bytes (IsPageCharacter colours.Plain) IsPlainByte (λ b high. inr (omega arith, omega arith)) plain_byte
    (page_text colours.Plain runs) (page_written colours.Plain runs)

-- a finding on a line of a concise page
module _ (tint : Colour) where
  abbrev line_of : List ℕ → Style → List ℕ → List ℕ → List Run
  line_of place style level message =
      styled styles.Plain place ∷ styled style level ∷ styled styles.Plain (codes ": ")
      ∷ styled styles.Plain message ∷ []

  line_written : (place : List ℕ) (style : Style) (level message : List ℕ)
      → IsWrittenIn (IsTextCharacter tint) (page_text tint (line_of place style level message))
  line_written place style level message =
      let plain : (text : List ℕ) → IsWrittenIn (IsTextCharacter tint) (painted_text tint styles.Plain text) =
      painted_line tint styles.Plain in
      let add = written_append (IsTextCharacter tint) in
      add _ _ (plain place) (add _ _ (painted_line tint style level) (add _ _ (plain (codes ": "))
      (add _ _ (plain message) (written_nil (IsTextCharacter tint)))))

  head_is_one_line : (place : List ℕ) (style : Style) (level message : List ℕ)
      → IsOneLine (page_text tint (head_line_runs place style level message))
  head_is_one_line place style level message =
      let runs : List Run = line_of place style level message in
      record {
        line = page_text tint runs;
        ends = flat_map-append (painted tint) runs (ending ∷ []);
        no_feed = line_has_no_feed tint (page_text tint runs) (line_written place style level message);
        no_return = line_has_no_return tint (page_text tint runs) (line_written place style level message);
      }

  pub concise_is_one_line : (root : List ℕ) (sources : List Source) (finding : Finding)
      → IsOneLine (page_text tint (concise_line_runs root sources finding))
  concise_is_one_line root sources finding = head_is_one_line _ _ _ _

ends-append : (a b : List Run) → line_ends (a ++ b) ≡ line_ends a + line_ends b
ends-append a b = sum_by-append (λ run. cond (ends_line run) 1 0) a b

one_end_each : (root : List ℕ) (sources : List Source) (findings : List Finding)
    → line_ends (flat_map (concise_line_runs root sources) findings) ≡ length findings
one_end_each root sources [] = refl
one_end_each root sources (finding ∷ findings) =
    ends-append (concise_line_runs root sources finding) (flat_map (concise_line_runs root sources) findings)
    ∙ ap (λ n. 1 + n) (one_end_each root sources findings) ∙ one_more (length findings)

pub concise_feeds : (tint : Colour) (report : Report)
    → line_feeds (page_text tint (concise_runs report)) ≡ length report.findings.items
concise_feeds tint report =
    page_feeds tint (concise_runs report)
    ∙ one_end_each (string_bytes report.root) report.sources.items report.findings.items
