use Rattle.std.proofs.Common.{◌≡◌, ◌∷◌, ◌∙◌, [], Some, None, refl, arith}
use Rattle.std.proofs.lemmas.Grind.{common_steps}
use Rattle.std.specs.Str.{chars}
use Rattle.nextest_scripts.specs.ShellReading.{words_from}
use Rattle.nextest_scripts.proofs.ShellSplits.{read_to_end, read_to_fault, splits_alone, splits_as_read, splits_into_none}
use Rattle.nextest_scripts.proofs.shell_words.split_shell_words.Goals as goal

pub returns-in_err-word-clause-unclosed : goal.returns-in_err-word-clause-unclosed
returns-in_err-word-clause-unclosed c is_unclosed words splits =
    let open_quote : words_from (Some []) (c.in-Some.first ∷ chars c.in-Some.after.now) ≡ None =
    grind (arith, common_steps) in
    splits_into_none _ words (read_to_fault _ _ _ c.loop-first.invariant.same
    (c.in-Some.ensures.begins ∙ open_quote)) splits

pub returns-clause-words : goal.returns-clause-words
returns-clause-words c = splits_as_read _ _
    (read_to_end _ _ _ c.loop-first.invariant.same (c.in_default.ensures.ended refl))

pub returns-clause-alone : goal.returns-clause-alone
returns-clause-alone c others splits =
    splits_alone _ _ others (read_to_end _ _ _ c.loop-first.invariant.same (c.in_default.ensures.ended refl)) splits
