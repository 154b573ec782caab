-- Beginnings of what a writer receives where no write fails.
use Rattle.std.specs.Prelude.{◌≡◌, ◌++◌, ℕ, List, Option}
use Rattle.std.specs.Io.KnownBytes.{Appends}

-- Known bytes grew by a prefix of a text, which may be all of it.
pub record AppendsPrefix (old new : Option (List ℕ)) (text : List ℕ) : Type 0 where
  pub part : List ℕ
  pub rest : List ℕ
  pub split : text ≡ part ++ rest
  pub grown : Appends old new part

-- known bytes stay at the front, and some may follow
abbrev pub Grows : Option (List ℕ) → Option (List ℕ) → Type 0
Grows old new = (bytes : List ℕ) × Appends old new bytes

-- A writer received a prefix of something whole, which may be all of it: it kept what it held, and
-- if the rest followed, it would hold the whole.
pub record ReceivesPrefix (IsWhole : Option (List ℕ) → Type 0) (old new : Option (List ℕ)) : Type 0
  where
    pub whole : Option (List ℕ)
    pub is_whole : IsWhole whole
    pub received : Grows old new
    pub rest : Grows new whole
