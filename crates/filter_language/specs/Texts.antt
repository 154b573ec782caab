-- Parts of texts, as bytes.
use Rattle.std.specs.Prelude.{ℕ, Bool, ◌==◌, ◌&&◌, ◌||◌, true, nat_lt, List, [], ◌∷◌, Option, None, Some, is_some, codes, if◌then◌else◌}
use Rattle.std.specs.Char.{char_set_contains}

-- What follows a prefix of a text, or none where the text does not begin with it.
abbrev pub after_prefix : List ℕ → List ℕ → Option (List ℕ)
after_prefix [] text = Some text
after_prefix (c ∷ prefix) [] = None
after_prefix (c ∷ prefix) (d ∷ text) = if c == d then after_prefix prefix text else None

-- A space, a line feed, or a carriage return with the line feed behind it is blank.
abbrev pub is_blank : ℕ → List ℕ → Bool
is_blank c rest =
    (c == 32) || ((c == 10) || ((c == 13) && is_some (after_prefix (codes "\n") rest)))

-- A text without the blanks in front.
abbrev pub skipped : List ℕ → List ℕ
skipped [] = []
skipped (c ∷ text) = if is_blank c text then skipped text else c ∷ text

-- A text up to the first byte that is one of the stops.
abbrev pub front_until : List ℕ → List ℕ → List ℕ
front_until stops [] = []
front_until stops (c ∷ text) =
    if char_set_contains stops c then [] else c ∷ front_until stops text

-- A text from the first byte on that is one of the stops.
abbrev pub rest_until : List ℕ → List ℕ → List ℕ
rest_until stops [] = []
rest_until stops (c ∷ text) =
    if char_set_contains stops c then c ∷ text else rest_until stops text

-- Whether each stop is an ASCII character.
abbrev pub are_ascii : List ℕ → Bool
are_ascii [] = true
are_ascii (c ∷ stops) = nat_lt c 128 && are_ascii stops
