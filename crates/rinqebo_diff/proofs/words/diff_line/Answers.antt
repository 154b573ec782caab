use Rattle.std.proofs.Common.{◌≡◌, ◌∙◌, Some, ap, codes, subst, sym}
use Rattle.std.proofs.lemmas.Slice.Eq.{bytes_eq-Decides}
use Rattle.clap.specs.declared.parser.matches.ArgMatches.TheViews.{out-ArgMatches}
use Rattle.rinqebo_request.specs.Lines.{line_of}
use Rattle.rinqebo_request.proofs.Commands.{differs, entered}
use Rattle.rinqebo_diff.specs.DiffRequests.{IsNoDiff}
use Rattle.rinqebo_diff.proofs.Requesting.{no_command}
use Rattle.rinqebo_diff.proofs.words.diff_line.Goals as goal

pub returns-then-eq : goal.returns-then-eq
returns-then-eq c =
    let read = entered (out-ArgMatches c.args.matches.now).subcommand c.in-Some.name.now (line_of c.in-Some.found.now) c.in-Some.ensures.name c.in-Some.ensures.rows in
    let named : c.in-Some.name.now ≡ codes "diff" = (bytes_eq-Decides c.in-Some.name.now (codes "diff")).0 (sym c.eq.ensures ∙ c.if-eq.true) in
    sym read ∙ ap (λ name. Some (name, line_of c.in-Some.found.now)) named

pub returns-else-eq : goal.returns-else-eq
returns-else-eq c =
    let read = entered (out-ArgMatches c.args.matches.now).subcommand c.in-Some.name.now (line_of c.in-Some.found.now) c.in-Some.ensures.name c.in-Some.ensures.rows in
    subst IsNoDiff read (differs c.in-Some.name.now (codes "diff") (sym c.eq.ensures ∙ c.if-eq.false))

pub returns-in-None : goal.returns-in-None
returns-in-None c = no_command (out-ArgMatches c.args.matches.now).subcommand (sym c.in-None.ensures.variant)
