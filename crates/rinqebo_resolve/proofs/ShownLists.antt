-- What reports show of the request of a run.
use Rattle.std.proofs.Common.{◌≡◌, None, Some, ap, codes, refl}
use Rattle.rinqebo_load.specs.ListPath.{list_path}
use Rattle.rinqebo_load.specs.ShownRequests.{test_in}
use Rattle.rinqebo_request.specs.declared.request.Question.{Question}
use Rattle.rinqebo_request.specs.declared.request.Question.TheVariants as questions
use Rattle.rinqebo_resolve.specs.Asking.{RequestedText, AsksForAll}

-- a run names no test, and its list is a member of the request
pub named_in : (asked : RequestedText) (q : Question) → AsksForAll asked q
    → (test_in q ≡ None) × (list_path q ≡ Some (codes "list"))
named_in asked (questions.Explain profile test shown) asks = absurd asks
named_in asked (questions.Why profile test setting) asks = absurd asks
named_in asked (questions.WhyRuns profile test) asks = absurd asks
named_in asked (questions.List profile mode list shown) asks = (refl, ap Some asks.2)
named_in asked (questions.ShowConfig profile keys with_hidden) asks = absurd asks
named_in asked (questions.Check deny_warnings) asks = absurd asks
