-- Runs whose endings are kept, and read by pieces.
use Rattle.std.specs.Prelude.{◌≡◌, ◌⊎◌, ◌++◌, ◌+◌, ◌≤◌, ℕ, List, drop, length, take}
use Rattle.rinqebo_resolve.specs.Endings.{IsAnswerTo, IsEndingFor, ending_status, ending_text}
use Rattle.rinqebo_resolve.specs.declared.run.Run.{Run}
use Rattle.rinqebo_session.specs.declared.status.TheConstants.{DONE}

-- A run is that of the bytes of a request: it ended as they require, and with the first status its
-- text is their result.
pub record IsRunOf (request : List ℕ) (run : Run) : Type 0 where
  pub is_ending : IsEndingFor request run.ending
  pub done : ending_status run.ending ≡ DONE → IsAnswerTo request (ending_text run.ending)

-- A piece of a text is copied out: what the buffer has room for, from an offset on. What is behind
-- it in the buffer stays. With what is left of the text behind the piece it makes up the text from
-- the offset on; and where it is empty, the buffer is, or nothing is left.
pub record IsPieceOf (text : List ℕ) (offset : ℕ) (old new : List ℕ) (count : ℕ) : Type 0 where
  pub length_told : count ≡ length (take (length old) (drop offset text))
  pub written : new ≡ take (length old) (drop offset text) ++ drop count old
  pub goes_on : drop offset text ≡ take count new ++ drop (offset + count) text
  pub ends : count ≡ 0 → (length old ≡ 0) ⊎ (length text ≤ offset)
