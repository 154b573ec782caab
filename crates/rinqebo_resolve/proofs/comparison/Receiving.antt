-- What callers receive of comparisons.
use Rattle.std.proofs.Common.{◌≡◌, ◌∙◌, ◌⊎◌, ◌<◌, ◌≤◌, inl, inr, ℕ, Bool, Global, List, Option, None, Some, ap, arith, drop, length, refl, String, string_bytes, subst, sym, take}
use Rattle.std.proofs.Math.Seq.{take-append_seam}
use Rattle.std.proofs.lemmas.Bool.{cases_lt}
use Rattle.rinqebo_resolve.specs.Comparison.Comparisons.{EndsFor, EndsUnderstood, IsCompared, IsDiffFor, counts_origins, side_number}
use Rattle.rinqebo_diff.specs.declared.loaded.SideName.{SideName}
use Rattle.rinqebo_diff.specs.declared.loaded.SideName.TheVariants as names
use Rattle.rinqebo_resolve.specs.Endings.{ending_status, ending_text}
use Rattle.rinqebo_resolve.specs.declared.ending.Ending.{Ending}
use Rattle.rinqebo_resolve.specs.declared.ending.Ending.TheVariants as ends
use Rattle.rinqebo_session.specs.declared.status.TheConstants.{DONE}

-- what a comparison ends with whose status is the first one
document_of : (from to : List ℕ) (with_origins : Bool) (side : Option SideName) (text : String Global)
    → EndsUnderstood from to with_origins side (ends.Answered text)
    → (side_number side ≡ 0) × IsDiffFor from to with_origins (string_bytes text)
document_of from to with_origins None text is = (
  refl,
  record {
    left = is.left;
    right = is.right;
    reads_left = is.reads_left;
    reads_right = is.reads_right;
    left_files = is.ends_so.left;
    right_files = is.ends_so.right;
    are_left = is.ends_so.are_left;
    are_right = is.ends_so.are_right;
    request = is.ends_so.ends_so.request;
    is_request = is.ends_so.ends_so.is_request;
    is_document = is.ends_so.ends_so.ends_so;
  },
)
document_of from to with_origins (Some names.From) text is = absurd is.ends_so.ends_so.ends_so.cause
document_of from to with_origins (Some names.To) text is = absurd is.ends_so.ends_so.ends_so.1.cause

pub done_with : (from to : List ℕ) (with_origins : Bool) (side : Option SideName) (ending : Ending)
    → EndsFor from to with_origins side ending → ending_status ending ≡ DONE
    → (side_number side ≡ 0) × IsDiffFor from to with_origins (ending_text ending)
done_with from to with_origins side (ends.Answered text) is done = document_of from to with_origins side text is
done_with from to with_origins side (ends.Refused text) is done = absurd (omega arith)
done_with from to with_origins side (ends.NoProfile text) is done = absurd (omega arith)
done_with from to with_origins side (ends.NoEngines reason) is done = absurd (omega arith)
done_with from to with_origins side (ends.NotUnderstood reason) is done = absurd (omega arith)
done_with from to with_origins side ends.NotText is done = absurd (omega arith)
done_with from to with_origins side ends.Memory is done = absurd (omega arith)

-- where the first status is returned, the caller has the document of what changes
document_in : (from to : List ℕ) (origins : ℕ) (old new : List ℕ) (needed side status : ℕ)
    (r : IsCompared from to origins old new needed side status)
    → (length old < length (ending_text r.ending)) ⊎ (length (ending_text r.ending) ≤ length old) → status ≡ DONE
    → (side ≡ 0) × IsDiffFor from to (counts_origins origins) (take needed new)
document_in from to origins old new needed side status r (inl less) done =
    let small = (r.is_reported.small less).0 in
    absurd (omega arith)
document_in from to origins old new needed side status r (inr room) done =
    let text = ending_text r.ending in
    let reported = r.is_reported.written room in
    let is : take needed new ≡ text =
    ap (λ n. take n new) r.is_reported.told ∙ ap (take (length text)) reported.1
    ∙ take-append_seam text (drop (length text) old) in
    let found = done_with from to (counts_origins origins) r.name r.ending r.is_ending (sym reported.0 ∙ done) in
    (r.is_side ∙ found.0, subst (IsDiffFor from to (counts_origins origins)) (sym is) found.1)

pub reported_document : (from to : List ℕ) (origins : ℕ) (old new : List ℕ) (needed side status : ℕ)
    → IsCompared from to origins old new needed side status → status ≡ DONE
    → (side ≡ 0) × IsDiffFor from to (counts_origins origins) (take needed new)
reported_document from to origins old new needed side status r =
    document_in from to origins old new needed side status r (cases_lt (length old) (length (ending_text r.ending)))
