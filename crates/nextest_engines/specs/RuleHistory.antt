-- The rules that an engine has evaluated, kept for contracts alone.
use Rattle.std.specs.Prelude.{List, ℕ, ◌++◌, ◌∷◌, []}
use Rattle.nextest_engines.specs.declared.history.Evaluations.{Evaluations, None, After'}

-- The numbers of the rules that were evaluated, the latest last.
abbrev pub numbers_in : Evaluations → List ℕ
numbers_in None = []
numbers_in (After' marker before rule) = numbers_in before ++ rule ∷ []
