-- Pages in colour are the plain pages without their escapes.
use Rattle.std.proofs.Common.{◌≡◌, ◌<◌, ◌≤◌, ◌+◌, ◌/◌, ◌%◌, ℕ, zero, suc, Bool, true, false, cond, eqb, ltb, List, [], ◌∷◌, ◌++◌, codes, flat_map, replicate, decimal, refl, ap, ◌∙◌, append_assoc, arith}
use Rattle.std.proofs.lemmas.Bool.{ne_eqb}
use Rattle.std.proofs.lemmas.Bool.Decides.{nat_tests}
use Rattle.std.specs.Bool.{⊤}
use Rattle.std.specs.Char.{is_control, encode_utf8}
use Rattle.std.specs.Fmt.{digit_glyph, digits, digits_onto}
use Rattle.std.specs.Str.{chars}
use Rattle.rinqebo_report.specs.Pieces.{Run, styled, repeated, numbered, ending, escape_of, shown_char, shown_text, painted_text, painted, page_text}
use Rattle.rinqebo_report.specs.Uncoloured.{left_of, uncoloured}
use Rattle.rinqebo_report.specs.declared.piece.Colour.TheVariants as colours
use Rattle.rinqebo_report.specs.declared.piece.Style.{Style}
use Rattle.rinqebo_report.specs.declared.piece.Style.TheVariants as styles

-- no byte begins an escape
abbrev HasNoEscape : List ℕ → Type 0
HasNoEscape [] = ⊤
HasNoEscape (c ∷ cs) = (eqb c 27 ≡ false) × HasNoEscape cs

-- such a text is left as it is
left-of_text : (text rest : List ℕ) → HasNoEscape text → left_of false (text ++ rest) ≡ text ++ left_of false rest
left-of_text [] rest h = refl
left-of_text (c ∷ cs) rest h = rw h.0 (ap (λ t. c ∷ t) (left-of_text cs rest h.1))

appended : (text rest : List ℕ) → HasNoEscape text → HasNoEscape rest → HasNoEscape (text ++ rest)
appended [] rest h k = k
appended (c ∷ cs) rest h k = (h.0, appended cs rest h.1 k)

all_of : {X : Type 0} (f : X → List ℕ) → ((x : X) → HasNoEscape (f x)) → (xs : List X) → HasNoEscape (flat_map f xs)
all_of f h [] = tt
all_of f h (x ∷ xs) = appended (f x) (flat_map f xs) (h x) (all_of f h xs)

-- a byte above 27 begins none
above : (c : ℕ) → 27 < c → eqb c 27 ≡ false
above c h = ne_eqb c 27 (λ e. absurd (omega arith))

glyph_above : (n : ℕ) → 27 < digit_glyph false n
glyph_above n = grind (arith, nat_tests)

digits_onto_plain : (k base n : ℕ) (behind : List ℕ) → HasNoEscape behind
    → HasNoEscape (digits_onto k base false n behind)
digits_onto_plain zero base n behind h = h
digits_onto_plain (suc k) base n behind h =
    let more : HasNoEscape (digit_glyph false (n % base) ∷ behind) = (above _ (glyph_above (n % base)), h) in
    let P : Bool → Type 0 = λ b. HasNoEscape
    (cond b (digit_glyph false (n % base) ∷ behind)
    (digits_onto k base false (n / base) (digit_glyph false (n % base) ∷ behind))) in
    elim (eqb (n / base) 0) as P [ true ↦ more | false ↦ digits_onto_plain k base (n / base) _ more ]

digits_plain : (base n : ℕ) → HasNoEscape (digits base false n)
unfolding digits
digits_plain base n = digits_onto_plain 64 base n [] tt

-- the bytes of a character that is not a control character
encoded_plain : (c : ℕ) → 32 ≤ c → HasNoEscape (encode_utf8 c)
unfolding encode_utf8
encoded_plain c low =
    let one : HasNoEscape (c ∷ []) = (above c (omega arith), tt) in
    let next : (n : ℕ) → eqb (128 + n % 64) 27 ≡ false = λ n. above _ (omega arith) in
    let P : Bool → Bool → Bool → Type 0 =
    λ a b d. HasNoEscape (cond a (c ∷ [])
    (cond b ((192 + c / 64) ∷ (128 + c % 64) ∷ [])
    (cond d ((224 + c / 4096) ∷ (128 + (c / 64) % 64) ∷ (128 + c % 64) ∷ [])
    ((240 + c / 262144) ∷ (128 + (c / 4096) % 64) ∷ (128 + (c / 64) % 64) ∷ (128 + c % 64) ∷ [])))) in
    let all : (a b d : Bool) → P a b d = λ a b d. elim a as (λ a. P a b d) [
      | true ↦ one
      | false ↦ (elim b as (λ b. P false b d) [
        | true ↦ (above _ (omega arith), (next c, tt))
        | false ↦ (elim d as (λ d. P false false d) [
          | true ↦ (above _ (omega arith), (next (c / 64), (next c, tt)))
          | false ↦ (above _ (omega arith), (next (c / 4096), (next (c / 64), (next c, tt))))
        ])
      ])
    ] in
    all (ltb c 128) (ltb c 2048) (ltb c 65536)

not_control_is_above : (c : ℕ) → is_control c ≡ false → 32 ≤ c
not_control_is_above c e = grind (arith, nat_tests)

shown_plain : (c : ℕ) → HasNoEscape (shown_char c)
shown_plain c =
    let P : Bool → Type 0 = λ b. is_control c ≡ b → HasNoEscape (cond b (escape_of c) (encode_utf8 c)) in
    let cases : (b : Bool) → P b = λ b. elim b as P [
      | true ↦ (λ e. (refl, (refl, (refl, appended (digits 16 false c) (codes "}") (digits_plain 16 c) (refl, tt)))))
      | false ↦ (λ e. encoded_plain c (not_control_is_above c e))
    ] in
    cases (is_control c) refl

-- a text in a style
text_left : (style : Style) (text rest : List ℕ)
    → left_of false (painted_text colours.Coloured style text ++ rest) ≡ shown_text text ++ left_of false rest
text_left style text rest =
    let shown : HasNoEscape (shown_text text) = all_of shown_char shown_plain (chars text) in
    let behind : left_of false ((shown_text text ++ 27 ∷ 91 ∷ codes "0m") ++ rest)
    ≡ shown_text text ++ left_of false rest =
    ap (left_of false) (append_assoc (shown_text text) (27 ∷ 91 ∷ codes "0m") rest)
    ∙ left-of_text (shown_text text) (27 ∷ 91 ∷ 48 ∷ 109 ∷ rest) shown in
    let P : Style → Type 0 = λ s. left_of false (painted_text colours.Coloured s text ++ rest)
    ≡ shown_text text ++ left_of false rest in
    elim style as P [
      | styles.Plain ↦ left-of_text (shown_text text) rest shown
      | styles.Key ↦ behind
      | styles.Remark ↦ behind
      | styles.Good ↦ behind
      | styles.Error ↦ behind
      | styles.Warning ↦ behind
      | styles.Help ↦ behind
    ]

run_left : (run : Run) (rest : List ℕ)
    → left_of false (painted colours.Coloured run ++ rest) ≡ painted colours.Plain run ++ left_of false rest
run_left (styled style text) rest = text_left style text rest
run_left (repeated c n) rest =
    left-of_text (flat_map shown_char (replicate n c)) rest (all_of shown_char shown_plain (replicate n c))
run_left (numbered n) rest = left-of_text (decimal n) rest (digits_plain 10 n)
run_left ending rest = refl

pub page_left : (runs : List Run) → uncoloured (page_text colours.Coloured runs) ≡ page_text colours.Plain runs
page_left [] = refl
page_left (run ∷ runs) =
    run_left run (page_text colours.Coloured runs) ∙ ap (λ t. painted colours.Plain run ++ t) (page_left runs)
