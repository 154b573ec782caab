-- One step of reading, over plain variables.
use Rattle.std.proofs.Common.{◌≡◌, ◌≢◌, ◌==◌, ◌||◌, ◌++◌, ◌∷◌, [], ℕ, List, Bool, true, false, Some, None, refl, sym, ◌∙◌, ap, append-nil, append_assoc, cond}
use Rattle.std.proofs.lemmas.Bool.{ne_eqb}
use Rattle.std.proofs.lemmas.Str.{IsUtf8-encode, chars-append, chars-nil, chars_past_char}
use Rattle.std.specs.Prelude.{IsUtf8, encode_utf8}
use Rattle.std.specs.Char.{IsScalar}
use Rattle.std.specs.Str.{chars}
use Rattle.nextest_scripts.specs.ShellReading.{words_from, words_from_comment, words_from_double, words_from_double_escape, words_from_escape, words_from_single, behind}
use Rattle.nextest_scripts.specs.ShellWords.{is_delimiter, is_escapable, is_special}

-- two tests that both fail
pub or_false : (a b : Bool) → (a || b) ≡ false → (a ≡ false) × (b ≡ false)
or_false true b h = (h, absurd (cc))
or_false false b h = (refl, h)

-- the tests that a character fails which is not special
pub record FailsTests (c : ℕ) : Type 0 where
  pub delimiter : is_delimiter c ≡ false
  pub backslash : (c == 92) ≡ false
  pub single : (c == 39) ≡ false
  pub double : (c == 34) ≡ false

pub fails_tests : (c : ℕ) → is_special c ≡ false → FailsTests c
fails_tests c h =
    let double = or_false (((is_delimiter c) || (c == 92)) || (c == 39)) (c == 34) h in
    let single = or_false ((is_delimiter c) || (c == 92)) (c == 39) double.0 in
    let backslash = or_false (is_delimiter c) (c == 92) single.0 in
    record { delimiter = backslash.0; backslash = backslash.1; single = single.1; double = double.1 }

-- a plain character, in a word that is begun
pub plain_step : (w : List ℕ) (c : ℕ) (rest : List ℕ) → is_special c ≡ false
    → words_from (Some w) (c ∷ rest) ≡ words_from (Some (w ++ c ∷ [])) rest
unfolding words_from
plain_step w c rest h = let t = fails_tests c h in rw (t.delimiter, t.backslash, t.single, t.double) refl

-- a character more at the end of a word
pub chars_pushed : (xs : List ℕ) (c : ℕ) → IsUtf8 xs → IsScalar c → chars (xs ++ encode_utf8 c) ≡ chars xs ++ c ∷ []
chars_pushed xs c u s =
    chars-append xs (encode_utf8 c) u
    ∙ ap (λ ys. chars xs ++ ys)
    (chars_past_char (encode_utf8 c) [] c (IsUtf8-encode c s) (sym (append-nil (encode_utf8 c)))
    ∙ ap (λ ys. c ∷ ys) chars-nil)

-- a word that has nothing yet
pub chars_none : chars [] ≡ []
chars_none = chars-nil

-- One step of each reader, by the character that is there.

pub comment_nil : words_from_comment [] ≡ words_from None []
unfolding words_from
comment_nil = refl

pub comment_cons : (c : ℕ) (rest : List ℕ)
    → words_from_comment (c ∷ rest) ≡ cond (c == 10) (words_from None rest) (words_from_comment rest)
unfolding words_from
comment_cons c rest = refl

pub single_nil : (w : List ℕ) → words_from_single w [] ≡ None
unfolding words_from
single_nil w = refl

pub single_cons : (w : List ℕ) (c : ℕ) (rest : List ℕ)
    → words_from_single w (c ∷ rest) ≡ cond (c == 39) (words_from (Some w) rest) (words_from_single (w ++ c ∷ []) rest)
unfolding words_from
single_cons w c rest = refl

pub double_nil : (w : List ℕ) → words_from_double w [] ≡ None
unfolding words_from
double_nil w = refl

pub double_cons : (w : List ℕ) (c : ℕ) (rest : List ℕ)
    → words_from_double w (c ∷ rest)
    ≡ cond (c == 34) (words_from (Some w) rest)
    (cond (c == 92) (words_from_double_escape w rest) (words_from_double (w ++ c ∷ []) rest))
unfolding words_from
double_cons w c rest = refl

pub double_escape_nil : (w : List ℕ) → words_from_double_escape w [] ≡ None
unfolding words_from
double_escape_nil w = refl

pub double_escape_cons : (w : List ℕ) (c : ℕ) (rest : List ℕ)
    → words_from_double_escape w (c ∷ rest)
    ≡ cond (c == 10) (words_from_double w rest)
    (cond (is_escapable c) (words_from_double (w ++ c ∷ []) rest) (words_from_double ((w ++ 92 ∷ []) ++ c ∷ []) rest))
unfolding words_from
double_escape_cons w c rest = rw append_assoc refl

pub escape_nil : (w : List ℕ) → words_from_escape (Some w) [] ≡ words_from (Some (w ++ 92 ∷ [])) []
unfolding words_from
escape_nil w = refl

pub escape_cons : (w : List ℕ) (c : ℕ) (rest : List ℕ)
    → words_from_escape (Some w) (c ∷ rest)
    ≡ cond (c == 10) (words_from (Some w) rest) (words_from (Some (w ++ c ∷ [])) rest)
unfolding words_from
escape_cons w c rest = refl

-- where a word is begun

pub some_single : (w rest : List ℕ) → words_from (Some w) (39 ∷ rest) ≡ words_from_single w rest
unfolding words_from
some_single w rest = refl

pub some_double : (w rest : List ℕ) → words_from (Some w) (34 ∷ rest) ≡ words_from_double w rest
unfolding words_from
some_double w rest = refl

pub some_backslash : (w rest : List ℕ) → words_from (Some w) (92 ∷ rest) ≡ words_from_escape (Some w) rest
unfolding words_from
some_backslash w rest = refl

pub some_plain : (w : List ℕ) (c : ℕ) (rest : List ℕ) → is_delimiter c ≡ false → c ≢ 92 → c ≢ 39 → c ≢ 34
    → words_from (Some w) (c ∷ rest) ≡ words_from (Some (w ++ c ∷ [])) rest
unfolding words_from
some_plain w c rest d b s q = rw (d, ne_eqb c 92 b, ne_eqb c 39 s, ne_eqb c 34 q) refl

pub some_end : (w : List ℕ) → words_from (Some w) [] ≡ behind (Some w) (words_from None [])
unfolding words_from
some_end w = refl

pub some_delimiter : (w : List ℕ) (c : ℕ) (rest : List ℕ) → is_delimiter c ≡ true
    → words_from (Some w) (c ∷ rest) ≡ behind (Some w) (words_from None (c ∷ rest))
unfolding words_from
some_delimiter w c rest h = rw h refl

-- where none is

pub none_nil : words_from None [] ≡ Some []
unfolding words_from
none_nil = refl

pub none_delimiter : (c : ℕ) (rest : List ℕ) → is_delimiter c ≡ true → words_from None (c ∷ rest) ≡ words_from None rest
unfolding words_from
none_delimiter c rest h = rw h refl

pub none_sign : (rest : List ℕ) → words_from None (35 ∷ rest) ≡ words_from_comment rest
unfolding words_from
none_sign rest = refl

pub none_line_feed : (rest : List ℕ) → words_from None (92 ∷ 10 ∷ rest) ≡ words_from None rest
unfolding words_from
none_line_feed rest = refl

pub none_escape : (c : ℕ) (rest : List ℕ) → c ≢ 10
    → words_from None (92 ∷ c ∷ rest) ≡ words_from (Some []) (92 ∷ c ∷ rest)
unfolding words_from
none_escape c rest n = rw (ne_eqb c 10 n) refl

pub none_backslash : words_from None (92 ∷ []) ≡ words_from (Some []) (92 ∷ [])
unfolding words_from
none_backslash = refl

pub none_other : (c : ℕ) (rest : List ℕ) → is_delimiter c ≡ false → c ≢ 35 → c ≢ 92
    → words_from None (c ∷ rest) ≡ words_from (Some []) (c ∷ rest)
unfolding words_from
none_other c rest d n b = rw (d, ne_eqb c 92 b, ne_eqb c 35 n) refl

-- What the proof of each reader takes.

pub ruleset none_steps = (none_nil, none_delimiter, none_sign, none_line_feed, none_escape, none_backslash, none_other)

pub ruleset comment_steps = (comment_nil, comment_cons)

pub ruleset end_steps = (chars_none, some_end, some_delimiter)

pub ruleset some_steps = (some_single, some_double, some_backslash, some_plain)

pub ruleset single_steps = (single_nil, single_cons)

pub ruleset double_steps = (double_nil, double_cons)

pub ruleset double_escape_steps = (double_escape_nil, double_escape_cons)

pub ruleset escape_steps = (escape_nil, escape_cons)
