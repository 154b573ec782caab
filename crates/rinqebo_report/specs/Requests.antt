-- The request of a user, as reports have it.
use Rattle.std.specs.Prelude.{ℕ, List, Option, None, Some, String, codes, map, option_map, string_bytes}
use Rattle.std.specs.declared.alloc.Global.{Global}
use Rattle.serde_json.specs.Data.{Data, string, object, Members, no_members, put}
use Rattle.rinqebo_report.specs.Documents.{text_data, list_data}
use Rattle.rinqebo_report.specs.Filled.{put_filled}
use Rattle.rinqebo_report.specs.declared.reported_request.NamedTest.{NamedTest}
use Rattle.rinqebo_report.specs.declared.reported_request.ReportCommand.{ReportCommand}
use Rattle.rinqebo_report.specs.declared.reported_request.ReportCommand.TheVariants as commands
use Rattle.rinqebo_report.specs.declared.reported_request.ReportedRequest.{ReportedRequest}

-- A test, as a user names it: the id of its binary, if the user names that, and its name.
pub record TestShown : Type 0 where
  pub binary : Option (List ℕ)
  pub name : List ℕ

-- The request of a user: the command and, if the user names them, the test, the KEYs in their
-- order, the KEYs of `--why` and `--by`, and the path of LIST.
pub record RequestShown : Type 0 where
  pub command : ReportCommand
  pub test : Option TestShown
  pub keys : List (List ℕ)
  pub why : Option (List ℕ)
  pub by : Option (List ℕ)
  pub list : Option (List ℕ)

-- the test that a report shows
abbrev pub test_shown : NamedTest → TestShown
test_shown test = record {
  binary = option_map string_bytes test.binary;
  name = string_bytes test.name;
}

-- the request that a report shows
abbrev pub request_shown : ReportedRequest → RequestShown
request_shown request = record {
  command = request.command;
  test = option_map test_shown request.test;
  keys = map string_bytes request.keys.items;
  why = option_map string_bytes request.why;
  by = option_map string_bytes request.by;
  list = option_map string_bytes request.list;
}

-- the name of a command
abbrev pub command_word : ReportCommand → List ℕ
command_word commands.Explain = codes "explain"
command_word commands.List = codes "list"
command_word commands.ShowConfig = codes "show-config"
command_word commands.Check = codes "check"
command_word commands.Diff = codes "diff"

-- members, with a text at a key, if there is one
abbrev pub put_given : List ℕ → Option (String Global) → Members → Members
put_given key None members = members
put_given key (Some text) members = put key (text_data text) members

-- a test that a user names: without the id of a binary, if the user names none
abbrev pub named_test_data : NamedTest → Data
named_test_data test =
    object (put (codes "name") (text_data test.name)
    (put_given (codes "binary-id") test.binary no_members))

-- members, with the test that a user names, if there is one
abbrev pub put_test : Option NamedTest → Members → Members
put_test None members = members
put_test (Some test) members = put (codes "test") (named_test_data test) members

-- The request of a user: always the command, and nothing that the user does not name.
abbrev pub request_data : ReportedRequest → Data
request_data request =
    object (put_given (codes "why") request.why
    (put_test request.test
    (put_given (codes "list") request.list
    (put_filled (codes "keys") (list_data text_data request.keys.items)
    (put_given (codes "by") request.by
    (put (codes "command") (string (command_word request.command)) no_members))))))
