-- Pages in colour, without the escapes.
use Rattle.std.specs.Prelude.{◌==◌, ℕ, Bool, true, false, List, [], ◌∷◌, not, if◌then◌else◌}

-- what is left of a text without its escapes, of which the first may have begun before it
abbrev pub left_of : Bool → List ℕ → List ℕ
left_of in_escape [] = []
left_of false (c ∷ cs) = if c == 27 then left_of true cs else c ∷ left_of false cs
left_of true (c ∷ cs) = left_of (not (c == 109)) cs

-- a text without its escapes, each from `ESC` to the next `m`
abbrev pub uncoloured : List ℕ → List ℕ
uncoloured text = left_of false text
