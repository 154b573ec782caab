use Rattle.std.specs.Str.{IsCharBoundary}
use Rattle.std.proofs.Common.{sym, subst}
use Rattle.platform_language.proofs.Words.{cut_at_word}
use Rattle.platform_language.proofs.marks.split_word.Goals as goal

pub split_at-requires : goal.split_at-requires
split_at-requires c =
    subst (IsCharBoundary c.args.text.now) (sym c.word_len.ensures) (cut_at_word c.args.text.now c.utf8.text)
