-- A text that is not a line: no name, no word before `=`, or no value between quotes behind it.
use Rattle.std.proofs.Common.{◌∙◌, sym, subst, MatchOption}
use Rattle.platform_language.specs.Platforms.Platforms.{line_of}
use Rattle.platform_language.specs.Platforms.CfgLines.{WritesLine, IsNoLine}
use Rattle.platform_language.proofs.platforms.CfgLineLemmas.{no_line_name, no_line_key, no_line_value}
use Rattle.platform_language.proofs.platforms.cfg_list.read_line.Goals as goal
use Rattle.platform_language.proofs.platforms.cfg_list.read_line.Goals.{in_default-via-in-None+else-is_word, in_default-via-in-Some+else-is_word-2}

pub returns-in_err-unquoted-in-Some : goal.returns-in_err-unquoted-in-Some
returns-in_err-unquoted-in-Some c =
    let text = c.args.line.now in
    subst (λ found. MatchOption found (IsNoLine text) (λ read. WritesLine text (line_of read.0.now read.1)))
    (sym c.from_residual.ensures)
    (no_line_value text (c.in-Some.key, c.in-Some.value) c.in-Some.ensures.cases c.in_err-unquoted-in-Some.ensures)

pub returns-in_default : goal.returns-in_default
returns-in_default c =
    let text = c.args.line.now in
    elim c.in_default.branch [
      | in_default-via-in-None+else-is_word w ↦
          no_line_name text w.in-None.ensures.cases (sym w.is_word.ensures ∙ w.if-is_word.false)
      | in_default-via-in-Some+else-is_word-2 w ↦
          no_line_key text (w.in-Some.key, w.in-Some.value) w.in-Some.ensures.cases (sym w.if-is_word-2.ensures)
    ]
