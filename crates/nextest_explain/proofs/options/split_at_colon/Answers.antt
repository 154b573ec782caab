use Rattle.std.proofs.Common.{rules}
use Rattle.std.proofs.lemmas.Str.Pattern.{split_parts}
use Rattle.nextest_explain.proofs.Taken.{parts_of}
use Rattle.nextest_explain.proofs.options.split_at_colon.Goals as goal

pub returns : goal.returns
returns c =
    parts_of _ _ _ c.split_once.result
    (split_parts 58 c.args.text.now c.split_once.result c.split_once.ensures.cases (search rules))
