-- The marks of a body, and how a body writes them.
use Rattle.std.specs.Prelude.{◌≡◌, ℕ, ◌==◌, ◌||◌, Bool, true, false, not, List, [], ◌∷◌, ◌++◌, Option, None, Some, option_map, take, drop, length, codes, bytes_eq, if◌then◌else◌}
use Rattle.std.specs.List.{list_all, position_or_len}
use Rattle.std.specs.Char.{is_ascii_alphabetic, is_ascii_alphanumeric, is_whitespace}
use Rattle.std.specs.Str.{IsUtf8, chars}
use Rattle.platform_language.specs.declared.expression.Function.{Function}
use Rattle.platform_language.specs.declared.expression.Function.TheVariants.{All, Any, Not}
use Rattle.platform_language.specs.declared.fault.Place.{Place}
use Rattle.platform_language.specs.declared.marks.Mark as mark
use Rattle.platform_language.specs.declared.marks.Mark.TheVariants as said
use Rattle.platform_language.specs.declared.marks.Front as found
use Rattle.platform_language.specs.declared.marks.Front.TheVariants as first
use Rattle.platform_language.specs.Faults.{place}

-- A mark is one of four signs, a function, any other word, or a value.
pub data Mark : Type 0 where
  OpenMark : Mark
  CloseMark : Mark
  CommaMark : Mark
  EqualsMark : Mark
  FunctionMark : Function → Mark
  NameMark : List ℕ → Mark
  ValueMark : List ℕ → Mark

-- the mark that is in memory
abbrev pub mark_view : mark.Mark → Mark
mark_view said.Open = OpenMark
mark_view said.Close = CloseMark
mark_view said.Comma = CommaMark
mark_view said.Equals = EqualsMark
mark_view (said.Function function) = FunctionMark function
mark_view (said.Name name) = NameMark name.now
mark_view (said.Value value) = ValueMark value.now

-- whether a word may begin with a byte: a letter of ASCII or `_`
abbrev pub is_word_start : ℕ → Bool
is_word_start c = is_ascii_alphabetic c || (c == 95)

-- whether a word may go on with a byte: a letter or a digit of ASCII or `_`
abbrev pub is_word_byte : ℕ → Bool
is_word_byte c = is_ascii_alphanumeric c || (c == 95)

-- the mark that a word is
abbrev pub word_mark : List ℕ → Mark
word_mark word =
    if bytes_eq word (codes "all") then FunctionMark All else
    (if bytes_eq word (codes "any") then FunctionMark Any else
    (if bytes_eq word (codes "not") then FunctionMark Not else NameMark word))

-- ---- writing

-- A word begins as words do and goes on as words do.
abbrev pub IsWord : List ℕ → Type 0
IsWord [] = ⊥
IsWord (c ∷ more) = (is_word_start c ≡ true) × (list_all is_word_byte more ≡ true)

-- No word goes on in a text.
abbrev pub EndsWord : List ℕ → Type 0
EndsWord [] = Unit {0}
EndsWord (c ∷ rest) = is_word_byte c ≡ false

-- A byte is no `"`.
abbrev pub is_inside_quotes : ℕ → Bool
is_inside_quotes c = not (c == 34)

-- In front of a rest, a mark is spelled so. A word is as long as it can be, and a value ends at the
-- next `"`.
abbrev pub SpellsMark : Mark → List ℕ → List ℕ → Type 0
SpellsMark OpenMark spelling rest = spelling ≡ codes "("
SpellsMark CloseMark spelling rest = spelling ≡ codes ")"
SpellsMark CommaMark spelling rest = spelling ≡ codes ","
SpellsMark EqualsMark spelling rest = spelling ≡ codes "="
SpellsMark (FunctionMark f) spelling rest =
    IsWord spelling × EndsWord rest × (word_mark spelling ≡ FunctionMark f)
SpellsMark (NameMark name) spelling rest =
    IsWord spelling × EndsWord rest × (word_mark spelling ≡ NameMark name)
SpellsMark (ValueMark value) spelling rest =
    (list_all is_inside_quotes value ≡ true) × (spelling ≡ 34 ∷ (value ++ (34 ∷ [])))

-- All characters of a text are blanks, those of Unicode's white space.
abbrev pub AreBlanks : List ℕ → Type 0
AreBlanks text = IsUtf8 text × (list_all is_whitespace (chars text) ≡ true)

-- A mark and where it is.
pub record Placed : Type 0 where
  pub mark : Mark
  pub place : Place

-- A text writes marks: each behind blanks, and blanks at the end.
abbrev pub Writes : List ℕ → List Placed → Type 0
Writes text [] = AreBlanks text
Writes text (m ∷ marks) = (blanks : List ℕ) × (spelling : List ℕ) × (rest : List ℕ)
    × AreBlanks blanks × SpellsMark m.mark spelling rest × (text ≡ blanks ++ (spelling ++ rest))
    × (m.place ≡ place (length (spelling ++ rest)) (length rest)) × Writes rest marks

-- ---- reading

-- What a text begins with: a mark and the text behind it, a `"` without a second one, or no mark.
pub data Front : Type 0 where
  FrontMark : Mark → List ℕ → Front
  UnclosedFront : Front
  ForeignFront : Front

-- the front that is in memory
abbrev pub front_view : found.Front → Front
front_view (first.Mark m behind) = FrontMark (mark_view m) behind.now
front_view first.Unclosed = UnclosedFront
front_view first.Foreign = ForeignFront

-- how many bytes of a word a text begins with
abbrev pub word_len : List ℕ → ℕ
word_len text = position_or_len (λ c. not (is_word_byte c)) text

-- the word that a text begins with, as a front
abbrev pub word_front : List ℕ → Front
word_front text = FrontMark (word_mark (take (word_len text) text)) (drop (word_len text) text)

-- what is before the first `"` of a text, and behind it
abbrev pub cut : List ℕ → Option (List ℕ × List ℕ)
cut [] = None
cut (c ∷ text) = if c == 34 then Some ([], text) else option_map (λ p. (c ∷ p.0, p.1)) (cut text)

-- a value and what follows it, as a front
abbrev pub value_behind : Option (List ℕ × List ℕ) → Front
value_behind None = UnclosedFront
value_behind (Some p) = FrontMark (ValueMark p.0) p.1

-- the value whose first `"` is before a text, as a front
abbrev pub value_front : List ℕ → Front
value_front text = value_behind (cut text)

-- what a text without blanks in front begins with
abbrev pub front : List ℕ → Front
front [] = ForeignFront
front (c ∷ rest) =
    if c == 40 then FrontMark OpenMark rest else
    (if c == 41 then FrontMark CloseMark rest else
    (if c == 44 then FrontMark CommaMark rest else
    (if c == 61 then FrontMark EqualsMark rest else
    (if c == 34 then value_front rest else
    (if is_word_start c then word_front (c ∷ rest) else ForeignFront)))))
