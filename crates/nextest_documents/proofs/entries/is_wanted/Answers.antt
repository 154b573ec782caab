use Rattle.std.proofs.Common.{sym, ◌∙◌}
use Rattle.nextest_documents.proofs.Results.{if_ok}
use Rattle.nextest_documents.proofs.entries.is_wanted.Goals as goal

pub returns : goal.returns
returns c =
    if_ok _ _ c.is_asked.result
    (λ asked both. (
      λ yes. record { told = sym c.is_told.ensures ∙ c.if-not-is_told.false; asked = both.0 yes },
      λ wanted. both.1 wanted.asked,
    ))
    c.is_asked.ensures
