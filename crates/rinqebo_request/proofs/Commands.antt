-- The command that a command line names.
use Rattle.std.proofs.Common.{◌≡◌, ◌≢◌, Bool, IsTrue, List, None, Option, Some, ap₂, codes, false, option_map, refl, true, ℕ}
use Rattle.std.proofs.lemmas.Slice.Eq.{bytes_eq-Decides}
use Rattle.std.specs.Box.{box_value}
use Rattle.std.specs.Prelude.{Box}
use Rattle.std.specs.Str.{bytes_eq}
use Rattle.clap.specs.Matches.{found_of}
use Rattle.clap.specs.Simple.{is_simple, subcommand_rows}
use Rattle.clap.specs.Walk.{Row, rows_of}
use Rattle.clap.specs.declared.parser.matches.ArgMatches.TheViews.{out-SubCommand}
use Rattle.clap.specs.declared.parser.matches.SubCommand.{SubCommand}
use Rattle.rinqebo_request.specs.ArgumentTable.{ProgramChoices, program_app}
use Rattle.rinqebo_request.specs.Lines.{Line}
use Rattle.rinqebo_request.specs.Requests.{IsCommandBy, IsNamedCommand}
use Rattle.rinqebo_request.specs.declared.environment.Environment.{Environment}
use Rattle.rinqebo_request.specs.declared.request.Command.{Command}

not_true : (b : Bool) → (IsTrue b → ⊥) → b ≡ false
not_true true none = absurd (none refl)
not_true false none = refl

-- a text that is another one, and one that is not
pub is_text : (a b : List ℕ) → a ≡ b → bytes_eq a b ≡ true
is_text a b same = (bytes_eq-Decides a b).1 same

pub is_not : (a b : List ℕ) → (a ≡ b → ⊥) → bytes_eq a b ≡ false
is_not a b other = not_true (bytes_eq a b) (λ is. other ((bytes_eq-Decides a b).0 is))

pub differs : (a b : List ℕ) → bytes_eq a b ≡ false → a ≢ b
differs a b test same =
    let yes : bytes_eq a b ≡ true = is_text a b same in absurd (cc)

-- the subcommand that was read, by its name and by what it has
pub entered : {Z : Type 0} (b : Option (Box SubCommand Z)) (name : List ℕ) (rows : List Row)
    → Some name ≡ option_map (λ s. (out-SubCommand (box_value s)).name.now) b
    → Some rows ≡ option_map (λ p. p.1) (subcommand_rows b) → Some (name, rows) ≡ subcommand_rows b
entered None name rows name_is rows_are = absurd (cc)
entered (Some s) name rows name_is rows_are =
    let same_name : name ≡ (out-SubCommand (box_value s)).name.now = cc in
    let same_rows : rows ≡ rows_of (found_of (out-SubCommand (box_value s)).matches) = cc in
    ap₂ (λ (n : List ℕ) (r : List Row). Some (n, r)) same_name same_rows

-- what clap reads of the program is known exactly
pub simple : (choices : ProgramChoices) → is_simple (program_app choices) ≡ true
simple choices = refl

-- a command by the tests of its name
pub by_tests : (a b c d : Bool) (name : List ℕ) (environment : Environment) (line : Line) (command : Command)
    → bytes_eq name (codes "explain") ≡ a → bytes_eq name (codes "list") ≡ b → bytes_eq name (codes "show-config") ≡ c
    → bytes_eq name (codes "schema") ≡ d → IsCommandBy a b c d environment line command
    → IsNamedCommand environment name line command
by_tests a b c d name environment line command a_is b_is c_is d_is is = rw (a_is, b_is, c_is, d_is) is
