-- What is known of the marks of a filter in memory.
use Rattle.std.specs.Prelude.{ℕ, suc, pred, ◌==◌, Bool, true, false, List, [], ◌∷◌, if◌then◌else◌}
use Rattle.filter_language.specs.declared.mark.Mark as mark
use Rattle.filter_language.specs.declared.mark.Mark.TheVariants.{Predicate, Open, Close}
use Rattle.filter_language.specs.declared.mark.Question as question
use Rattle.filter_language.specs.declared.mark.Question.TheVariants.{Default}

-- Whether a question is `default()`.
abbrev pub asks_default : {M : Type 0} → question.Question M → Bool
asks_default Default = true
asks_default _ = false

-- Whether a mark is it.
abbrev pub is_default : {M : Type 0} → mark.Mark M → Bool
is_default (Predicate q) = asks_default q
is_default _ = false

-- How many parentheses are open behind a mark, of 128 at most.
abbrev pub depth_with : {M : Type 0} → ℕ → mark.Mark M → ℕ
depth_with n Open = if n == 128 then n else suc n
depth_with n Close = pred n
depth_with n _ = n

-- How many are open behind marks.
abbrev pub depth_behind : {M : Type 0} → ℕ → List (mark.Mark M) → ℕ
depth_behind n [] = n
depth_behind n (m ∷ marks) = depth_behind (depth_with n m) marks
