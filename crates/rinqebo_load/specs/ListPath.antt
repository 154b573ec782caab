-- The paths of files that a request names.
use Rattle.std.specs.Prelude.{ℕ, List, Option, None, Some, codes, option_map}
use Rattle.rinqebo_request.specs.declared.request.ListFile.{ListFile}
use Rattle.rinqebo_request.specs.declared.request.ListFile.TheVariants as files
use Rattle.rinqebo_request.specs.declared.request.Question.{Question}
use Rattle.rinqebo_request.specs.declared.request.Question.TheVariants as questions
use denote.Ref.{Bor}

-- a path that a user writes, if there is one
abbrev pub path_of : Option (Bor (List ℕ)) → Option (List ℕ)
path_of path = option_map (λ text. text.now) path

-- the path of a list of tests, as messages show it: `-` for standard input
abbrev pub file_path : ListFile → List ℕ
file_path (files.Named path) = path.now
file_path files.Input = codes "-"

-- the path of the list of tests that a user names, if there is one
abbrev pub list_path : Question → Option (List ℕ)
list_path (questions.Explain profile test asked) = option_map file_path test.list
list_path (questions.Why profile test setting) = option_map file_path test.list
list_path (questions.WhyRuns profile test) = option_map file_path test.list
list_path (questions.List profile mode list asked) = Some (file_path list)
list_path (questions.ShowConfig profile keys with_hidden) = None
list_path (questions.Check deny_warnings) = None
