-- Blanks before marks.
use Rattle.std.proofs.Common.{◌≡◌, ℕ, ◌+◌, ◌<◌, Bool, true, false, cond, ◌&&◌, List, [], ◌∷◌, ◌++◌, length, get_or, refl, sym, ◌∙◌, ap, subst, arith, length-append}
use Rattle.std.specs.Char.{is_whitespace, encode_utf8}
use Rattle.std.specs.List.{list_all}
use Rattle.std.specs.Str.{IsUtf8, chars, trim_start, skip_leading_whitespace, encode_utf8_all}
use Rattle.std.proofs.lemmas.Str.{chars-encodes, chars-append, chars_past_char, encodes-chars, encodes-append, scalars-chars, encode_ascii, IsUtf8-drop, IsCharBoundary-before_ascii}
use lib.Utf8.{scalars, scalar}
use Rattle.platform_language.specs.Marks.{AreBlanks}
use Rattle.platform_language.proofs.Words.{drop_own}

-- Among characters.

abbrev skipped : List ℕ → List ℕ
skipped cs = skip_leading_whitespace cs

first : (a b : Bool) → (a && b) ≡ true → a ≡ true
first true b e = refl
first false b e = e

second : (a b : Bool) → (a && b) ≡ true → b ≡ true
second true b e = e
second false b e = absurd (cc)

both : (a b : Bool) → a ≡ true → b ≡ true → (a && b) ≡ true
both a b x y = rw (x, y) refl

skip_blank : (c : ℕ) (cs : List ℕ) → is_whitespace c ≡ true → skipped (c ∷ cs) ≡ skipped cs
skip_blank c cs is = ap (λ b. cond b (skipped cs) (c ∷ cs)) is

skip_other : (c : ℕ) (cs : List ℕ) → is_whitespace c ≡ false → skipped (c ∷ cs) ≡ c ∷ cs
skip_other c cs is = ap (λ b. cond b (skipped cs) (c ∷ cs)) is

skip_all : (ws cs : List ℕ) → list_all is_whitespace ws ≡ true → skipped (ws ++ cs) ≡ skipped cs
skip_all [] cs all = refl
skip_all (w ∷ ws) cs all =
    skip_blank w (ws ++ cs) (first (is_whitespace w) (list_all is_whitespace ws) all)
    ∙ skip_all ws cs (second (is_whitespace w) (list_all is_whitespace ws) all)

-- Characters are blanks and what is left of them.
abbrev Parted : List ℕ → List ℕ → Type 0
Parted cs rest = (ws : List ℕ) × (list_all is_whitespace ws ≡ true) × (cs ≡ ws ++ rest)

part_by : (c : ℕ) (cs : List ℕ) (b : Bool) → is_whitespace c ≡ b → Parted cs (skipped cs)
    → Parted (c ∷ cs) (skipped (c ∷ cs))
part_by c cs true is (ws, all, same) =
    subst (λ r. Parted (c ∷ cs) r) (sym (skip_blank c cs is)) (c ∷ ws, both _ _ is all, ap (λ l. c ∷ l) same)
part_by c cs false is known = subst (λ r. Parted (c ∷ cs) r) (sym (skip_other c cs is)) ([], refl, refl)

parted : (cs : List ℕ) → Parted cs (skipped cs)
parted [] = ([], refl, refl)
parted (c ∷ cs) = part_by c cs (is_whitespace c) refl (parted cs)

scalars_first : (xs ys : List ℕ) → scalars (xs ++ ys) ≡ true → scalars xs ≡ true
scalars_first [] ys e = refl
scalars_first (x ∷ xs) ys e =
    both _ _ (first (scalar x) (scalars (xs ++ ys)) e) (scalars_first xs ys (second (scalar x) (scalars (xs ++ ys)) e))

scalars_second : (xs ys : List ℕ) → scalars (xs ++ ys) ≡ true → scalars ys ≡ true
scalars_second [] ys e = e
scalars_second (x ∷ xs) ys e = scalars_second xs ys (second (scalar x) (scalars (xs ++ ys)) e)

-- In texts.

-- A text is blanks and what is left of it.
pub split_blanks : (text : List ℕ) → IsUtf8 text
    → (blanks : List ℕ) × AreBlanks blanks × (text ≡ blanks ++ trim_start text) × IsUtf8 (trim_start text)
unfolding trim_start
split_blanks text utf8 =
    let cs = chars text in
    let it = parted cs in
    let whole : scalars (it.0 ++ skipped cs) ≡ true = ap scalars (sym it.2) ∙ scalars-chars text utf8 in
    let front : scalars it.0 ≡ true = scalars_first it.0 (skipped cs) whole in
    let rest : scalars (skipped cs) ≡ true = scalars_second it.0 (skipped cs) whole in
    let bytes = encode_utf8_all it.0 in (
      bytes,
      ((it.0, (front, refl)), ap (list_all is_whitespace) (chars-encodes it.0 front) ∙ it.1),
      sym (encodes-chars text utf8) ∙ ap encode_utf8_all it.2 ∙ encodes-append it.0 (skipped cs),
      (skipped cs, (rest, refl)),
    )

-- Blanks alone are skipped.
pub all_skipped : (text : List ℕ) → AreBlanks text → trim_start text ≡ []
unfolding trim_start
all_skipped text (utf8, all) = ap encode_utf8_all (none (chars text) all)
  where
    none : (ws : List ℕ) → list_all is_whitespace ws ≡ true → skipped ws ≡ []
    none [] all = refl
    none (w ∷ ws) all =
        skip_blank w ws (first (is_whitespace w) (list_all is_whitespace ws) all)
        ∙ none ws (second (is_whitespace w) (list_all is_whitespace ws) all)

get_own : (xs ys : List ℕ) (c : ℕ) → get_or (xs ++ (c ∷ ys)) (length xs) 0 ≡ c
get_own [] ys c = refl
get_own (x ∷ xs) ys c = get_own xs ys c

-- What is behind blanks is a text.
rest_utf8 : (blanks rest : List ℕ) (c : ℕ) → c < 128 → IsUtf8 (blanks ++ (c ∷ rest)) → IsUtf8 (c ∷ rest)
rest_utf8 blanks rest c small utf8 =
    let size : length (blanks ++ (c ∷ rest)) ≡ length blanks + length (c ∷ rest) = length-append blanks (c ∷ rest) in
    let below : length blanks < length (blanks ++ (c ∷ rest)) = omega (arith, size) in
    let at = get_own blanks rest c in
    let ascii : get_or (blanks ++ (c ∷ rest)) (length blanks) 0 < 128 = subst (λ n. n < 128) (sym at) small in
    subst IsUtf8 (drop_own blanks (c ∷ rest))
    (IsUtf8-drop (blanks ++ (c ∷ rest)) (length blanks) utf8
    (IsCharBoundary-before_ascii (blanks ++ (c ∷ rest)) (length blanks) below ascii))

-- Blanks before a byte that is none are skipped.
pub blanks_skipped : (blanks rest : List ℕ) (c : ℕ) → AreBlanks blanks → c < 128 → is_whitespace c ≡ false
    → IsUtf8 (blanks ++ (c ∷ rest))
    → (trim_start (blanks ++ (c ∷ rest)) ≡ c ∷ rest) × IsUtf8 (c ∷ rest)
unfolding trim_start
blanks_skipped blanks rest c (front, all) small other utf8 =
    let behind = rest_utf8 blanks rest c small utf8 in
    let one : c ∷ rest ≡ encode_utf8 c ++ rest = sym (ap (λ l. l ++ rest) (encode_ascii c small)) in
    let seen : chars (c ∷ rest) ≡ c ∷ chars rest = chars_past_char (c ∷ rest) rest c behind one in
    let left : skipped (chars (blanks ++ (c ∷ rest))) ≡ chars (c ∷ rest) =
    ap skipped (chars-append blanks (c ∷ rest) front) ∙ skip_all (chars blanks) (chars (c ∷ rest)) all
    ∙ ap skipped seen ∙ skip_other c (chars rest) other ∙ sym seen in
    (ap encode_utf8_all left ∙ encodes-chars (c ∷ rest) behind, behind)
