-- Where a text may be cut.
use Rattle.std.proofs.Common.{◌≡◌, ℕ, List, ◌++◌, sym, ◌∙◌, subst, arith, zero-add}
use Rattle.std.specs.Prelude.{encode_utf8}
use Rattle.std.specs.Char.{len_utf8}
use Rattle.std.specs.Str.{IsCharBoundary, IsUtf8}
use Rattle.std.proofs.lemmas.Str.{IsCharBoundary-past_char}

-- behind its first character
pub past_char : (text rest : List ℕ) (c n : ℕ) → IsUtf8 text → text ≡ encode_utf8 c ++ rest → n ≡ len_utf8 c → IsCharBoundary text n
past_char text rest c n utf8 is n_is =
    subst (IsCharBoundary text) (zero-add (len_utf8 c) ∙ sym n_is) (IsCharBoundary-past_char text rest 0 c (omega arith) utf8 is)
