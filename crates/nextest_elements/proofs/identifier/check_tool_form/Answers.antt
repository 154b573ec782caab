use Rattle.std.proofs.Common.{◌≡◌, IfNone, IsTrue, eqb, drop, length, subst}
use Rattle.std.specs.List.{position_or_len}
use Rattle.nextest_elements.specs.Identifier.{has_tool_prefix}
use Rattle.nextest_elements.proofs.Identifiers.{unsplit_tool_form}
use Rattle.nextest_elements.proofs.identifier.check_tool_form.Goals as goal

pub returns-in_default-3-clause-verdict : goal.returns-in_default-3-clause-verdict
returns-in_default-3-clause-verdict c =
    let text = c.args.text.now in
    unsplit_tool_form text
    (subst (λ r. IfNone r (IsTrue (has_tool_prefix text)
    → position_or_len (λ b. eqb b 58) (drop 6 text) ≡ length (drop 6 text))) c.in_default.is
    c.split_tool.ensures.none)
