-- Hints of findings: which known name a wrong one most likely means.
use Rattle.std.specs.Prelude.{◌≡◌, ◌⊎◌, ◌<◌, ℕ, ◌+◌, ◌-◌, ◌==◌, count_by, min, not, nat_eq, nat_le, Bool, ◌&&◌, ◌||◌, List, [], ◌++◌, codes, find, length, map, Option, None, Some, option_map, All}
use Rattle.std.specs.Borrow.{Bor}
use Rattle.std.specs.List.{list_all, list_any, starts_with, zip}
use Rattle.std.specs.Str.{chars, str_eq_ignore_ascii_case}
use Rattle.nextest_places.specs.declared.step.Step.{Step}
use Rattle.nextest_shape.specs.Form.{one_of, Form, a_text, either, Forms, no_forms, or_form}
use Rattle.rinqebo_report.specs.Hints.{distance, reach, IsNearest}
use Rattle.rinqebo_faults.specs.Shapes.{wanted_at}

-- one of two texts, which has three bytes at least, begins the other
unfoldable pub begins : (one other : List ℕ) → Bool
begins one other =
    nat_le 3 (min (length one) (length other))
    && (starts_with nat_eq one other || starts_with nat_eq other one)

-- how many of some characters are others than those at the same places of other ones, where these
-- may be fewer
unfoldable pub differences : List ℕ → List ℕ → ℕ
differences cs others =
    count_by (λ p. not (p.0 == p.1)) (zip cs others) + (length cs - length others)

-- each of some characters is among others
abbrev pub are_among : List ℕ → List ℕ → Bool
are_among cs others = list_all (λ c. list_any (λ d. d == c) others) cs

-- two texts are the same but for two characters that are swapped
unfoldable pub is_swapped : (one other : List ℕ) → Bool
is_swapped one other =
    length one == length other && (differences (chars one) (chars other) == 2
    && (are_among (chars one) (chars other) && are_among (chars other) (chars one)))

-- two names differ as names do that are mistaken: in case, or by swapped characters
unfoldable pub is_mistaken : (name known : List ℕ) → Bool
is_mistaken name known = str_eq_ignore_ascii_case name known || is_swapped name known

-- the texts behind references
abbrev pub texts : List (Bor (List ℕ)) → List (List ℕ)
texts words = map (λ word. word.now) words

-- the first known name that a slip of the hand makes a name
abbrev pub first_mistaken : List ℕ → List (List ℕ) → Option (List ℕ)
first_mistaken name known = find (is_mistaken name) known

-- no known name is near
abbrev pub AreFar : List ℕ → List (Bor (List ℕ)) → Type 0
AreFar name known = All (λ other. reach name < distance name other.now) known

-- A name is the known one that is nearest to another, if one is near, or else the first that a slip
-- of the hand makes it.
abbrev pub IsNear : List ℕ → List (Bor (List ℕ)) → Option (List ℕ) → Type 0
IsNear name known None = AreFar name known × (first_mistaken name (texts known) ≡ None)
IsNear name known (Some near) =
    IsNearest name known near
    ⊎ (AreFar name known × (first_mistaken name (texts known) ≡ Some near))

-- the first known name that begins a name, or that it begins
abbrev pub name_by_front : List ℕ → List (List ℕ) → Option (List ℕ)
name_by_front name known = find (λ other. begins other name) known

-- A name is the known one that is meant by another: one that is near, or else one with the same
-- front.
abbrev pub IsMeant : List ℕ → List (Bor (List ℕ)) → Option (List ℕ) → Type 0
IsMeant name known meant =
    ((near : List ℕ) × IsNear name known (Some near) × (meant ≡ Some near))
    ⊎ (IsNear name known None × (meant ≡ name_by_front name (texts known)))

-- the hint that a name is meant
abbrev pub hint_text : List ℕ → List ℕ
hint_text name = codes "did you mean `" ++ (name ++ codes "`?")

-- A hint is that one of some known names is meant, if one is near or has the same front.
pub record IsHint (name : List ℕ) (known : List (Bor (List ℕ))) (hint : Option (List ℕ)) :
    Type 0 where
  pub meant : Option (List ℕ)
  pub is : IsMeant name known meant
  pub says : hint ≡ option_map hint_text meant

-- the words of which one form takes one, if it is a text of some words
abbrev pub own_words : Form → List (List ℕ)
own_words (a_text (one_of words)) = words
own_words form = []

-- the words of which some forms take one each
abbrev pub words_of_each : Forms → List (List ℕ)
words_of_each no_forms = []
words_of_each (or_form form forms) = own_words form ++ words_of_each forms

-- the words of which a form takes one
abbrev pub words_of : Form → List (List ℕ)
words_of (either forms) = words_of_each forms
words_of form = own_words form

-- A hint is that one of the words is meant of which a form takes one.
pub record IsWordHint (word : List ℕ) (form : Form) (hint : Option (List ℕ)) : Type 0 where
  pub words : List (Bor (List ℕ))
  pub are : texts words ≡ words_of form
  pub is : IsHint word words hint

-- a hint is one of a form, if there is one
abbrev pub IsHintBy : List ℕ → Option Form → Option (List ℕ) → Type 0
IsHintBy word None hint = hint ≡ None
IsHintBy word (Some form) hint = IsWordHint word form hint

-- A hint is that one of the words is meant of which the shape of a file takes one at a path.
abbrev pub IsHintAt : List ℕ → List Step → Option (List ℕ) → Type 0
IsHintAt word path hint = IsHintBy word (wanted_at path) hint
