use Rattle.std.proofs.Common.{rules}
use Rattle.rinqebo_request.specs.Lines.{line_of}
use Rattle.rinqebo_diff.specs.RightLine.{right_line}
use Rattle.rinqebo_diff.proofs.words.sides_request.Goals as goal

pub returns : goal.returns
returns c =
    let line = line_of c.args.matches.now in
    record {
      from = c.in_ok-side_request.ensures line c.in_ok-left.ensures.0;
      to = c.in_ok-side_request-2.ensures (right_line line) c.in_ok-left.ensures.1;
      compared = c.in_ok-compared.ensures;
      with_run = c.compares_run.ensures;
      with_origins = c.is_on.ensures;
      lists_all = c.is_on-2.ensures;
      format = c.diff_format.ensures;
      paper = c.paper.ensures;
      progress = search rules;
    }
