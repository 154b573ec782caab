use Rattle.std.proofs.Common.{◌∙◌}
use Rattle.clap.specs.Matches.{found_of}
use Rattle.clap.proofs.WalkLemmas.{one_text-rows}
use Rattle.rinqebo_diff.proofs.line.is_on.Goals as goal

pub returns : goal.returns
returns c =
    let same = one_text-rows (found_of c.args.matches.now) c.args.id.now in
    record {
      absent = λ is. c.get_flag.ensures.none (same ∙ is);
      on = λ is. c.get_flag.ensures.value (same ∙ is);
      off = λ is. c.get_flag.ensures.other (same ∙ is);
    }
