use Rattle.std.specs.Prelude.{ℕ, Bool, ◌==◌, ◌||◌, List, [], ◌∷◌, Option, None, Some, is_some, if◌then◌else◌}

-- What follows a prefix of a text, or none where the text does not begin with it.
abbrev pub after_prefix : List ℕ → List ℕ → Option (List ℕ)
after_prefix [] text = Some text
after_prefix (c ∷ prefix) [] = None
after_prefix (c ∷ prefix) (d ∷ text) = if c == d then after_prefix prefix text else None

-- Whether a text has another as a part.
abbrev pub has_part : List ℕ → List ℕ → Bool
has_part part [] = is_some (after_prefix part [])
has_part part (c ∷ text) = is_some (after_prefix part (c ∷ text)) || has_part part text
