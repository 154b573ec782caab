-- What reports show of a request.
use Rattle.std.specs.Prelude.{Option, None, Some, map, option_map}
use Rattle.rinqebo_report.specs.Requests.{RequestShown, TestShown}
use Rattle.rinqebo_request.specs.declared.request.Question.{Question}
use Rattle.rinqebo_request.specs.declared.request.Question.TheVariants as questions
use Rattle.rinqebo_request.specs.declared.request.Request.{Request}
use Rattle.rinqebo_request.specs.declared.request.RequestedTest.{RequestedTest}
use Rattle.rinqebo_load.specs.ListPath.{list_path, path_of}

-- a test, as the user names it
abbrev pub named_test : RequestedTest → TestShown
named_test test = record { binary = path_of test.binary; name = test.name.now }

-- the test that the user names, if the request is about one
abbrev pub test_in : Question → Option TestShown
test_in (questions.Explain profile test asked) = Some (named_test test)
test_in (questions.Why profile test setting) = Some (named_test test)
test_in (questions.WhyRuns profile test) = Some (named_test test)
test_in (questions.List profile mode list asked) = None
test_in (questions.ShowConfig profile keys with_hidden) = None
test_in (questions.Check deny_warnings) = None

-- What reports show of a request: its command, the test that the user names, the KEYs as the user
-- writes them, and the path of the list.
abbrev pub shown_of : Request → RequestShown
shown_of request = record {
  command = request.words.command;
  test = test_in request.question;
  keys = map (λ key. key.now) request.words.keys.items;
  why = path_of request.words.why;
  by = path_of request.words.by;
  list = list_path request.question;
}
