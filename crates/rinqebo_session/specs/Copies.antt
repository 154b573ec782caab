-- Texts that are copied into a caller's buffer.
use Rattle.std.specs.Prelude.{◌≡◌, ◌<◌, ◌≤◌, ◌++◌, ℕ, List, drop, length}
use Rattle.rinqebo_session.specs.declared.status.TheConstants.{DONE, SMALL}

-- nothing is copied out, and the status says why
abbrev pub IsNothingCopied : ℕ → List ℕ → List ℕ → ℕ → ℕ → Type 0
IsNothingCopied why old new needed status = (status ≡ why) × (needed ≡ 0) × (new ≡ old)

-- A text is copied out: where the buffer has room, it is at the buffer's start, and what was behind
-- it stays; else the buffer is left as it was. Its length is written either way.
pub record IsCopiedOut (text old new : List ℕ) (needed status : ℕ) : Type 0 where
  pub told : needed ≡ length text
  pub written : length text ≤ length old
      → (status ≡ DONE) × (new ≡ text ++ drop (length text) old)
  pub small : length old < length text → (status ≡ SMALL) × (new ≡ old)
