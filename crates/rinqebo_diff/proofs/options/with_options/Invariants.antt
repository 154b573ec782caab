use Rattle.std.proofs.Common.{◌≡◌, map}
use Rattle.clap.specs.declared.builder.value_parser.ValueParser.{ValueParser}
use Rattle.rinqebo_request.specs.ArgumentTable.{Adds, IsChoice, mode_words}
use Rattle.rinqebo_diff.specs.RightLine.{right_names}
use Rattle.rinqebo_diff.proofs.Arguments.{first_rules}
use Rattle.rinqebo_diff.proofs.options.with_options.Given as goal

-- the options so far are added
abbrev pub invariant-loop-name : goal.invariant-loop-name
invariant-loop-name l =
    map (λ option. option.0.now) l.options ≡ right_names
    → (modes : ValueParser) × IsChoice mode_words modes × Adds (first_rules modes l.name-index) l.fn.command l.command
