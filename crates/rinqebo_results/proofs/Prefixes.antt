-- Beginnings of what a writer receives.
use Rattle.std.proofs.Common.{◌≡◌, ◌∙◌, ◌⊎◌, ◌++◌, inl, inr, ℕ, List, [], Option, None, Some, ap, append-nil, append_assoc, refl, subst, sym}
use Rattle.std.proofs.KnownBytes.{Appends-kept, Appends-nil, Appends-trans}
use Rattle.std.specs.Io.KnownBytes.{Appends, Keeps, append_known}
use Rattle.rinqebo_results.specs.Prefixes.{AppendsPrefix, Grows, ReceivesPrefix}

-- a writer that took nothing holds what it held
pub kept_of_none : (old new : Option (List ℕ)) → Appends old new [] → Keeps old new
kept_of_none None new took = tt
kept_of_none (Some xs) None took = absurd took
kept_of_none (Some xs) (Some ys) took = took ∙ append-nil xs

-- a writer that holds what it held took nothing
pub none_of_kept : (old new : Option (List ℕ)) → Keeps old new → Appends old new []
none_of_kept None new kept = tt
none_of_kept (Some xs) None kept = absurd kept
none_of_kept (Some xs) (Some ys) kept = kept ∙ sym (append-nil xs)

-- a writer that keeps its bytes received the same prefix
pub prefix_kept : (old mid new : Option (List ℕ)) (text : List ℕ) → AppendsPrefix old mid text → Keeps mid new
    → AppendsPrefix old new text
prefix_kept old mid new text prefix kept = record {
  part = prefix.part;
  rest = prefix.rest;
  split = prefix.split;
  grown = Appends-kept old mid new prefix.part prefix.grown kept;
}

-- a text that went out whole
pub prefix_whole : (old new : Option (List ℕ)) (text : List ℕ) → Appends old new text → AppendsPrefix old new text
prefix_whole old new text written = record {
  part = text;
  rest = [];
  split = sym (append-nil text);
  grown = written;
}

-- a prefix of a text between two others, of which the first went out
pub prefix_behind : (old mid new : Option (List ℕ)) (before text after : List ℕ) → Appends old mid before
    → AppendsPrefix mid new text → AppendsPrefix old new ((before ++ text) ++ after)
prefix_behind old mid new before text after written prefix = record {
  part = before ++ prefix.part;
  rest = prefix.rest ++ after;
  split = ap (λ t. (before ++ t) ++ after) prefix.split
      ∙ ap (λ t. t ++ after) (sym (append_assoc before prefix.part prefix.rest))
      ∙ append_assoc (before ++ prefix.part) prefix.rest after;
  grown = Appends-trans old mid new before prefix.part written prefix.grown;
}

-- bytes behind those that are known
appended : (known : Option (List ℕ)) (bytes : List ℕ) → Appends known (append_known known bytes) bytes
appended None bytes = tt
appended (Some xs) bytes = refl

-- what a writer receives in all, of which it received nothing yet
pub received_none : (IsWhole : Option (List ℕ) → Type 0) (old new : Option (List ℕ)) → new ≡ old → IsWhole old
    → ReceivesPrefix IsWhole old new
received_none IsWhole old new same is = record {
  whole = old;
  is_whole = is;
  received = ([], subst (λ bytes. Appends old bytes []) (sym same) (Appends-nil old));
  rest = ([], subst (λ bytes. Appends bytes old []) (sym same) (Appends-nil old));
}

-- what a writer received in all
pub received_whole : (IsWhole : Option (List ℕ) → Type 0) (old new : Option (List ℕ)) → IsWhole new → Grows old new
    → ReceivesPrefix IsWhole old new
received_whole IsWhole old new is grown = record {
  whole = new;
  is_whole = is;
  received = grown;
  rest = ([], Appends-nil new);
}

-- a prefix of a text, behind what a writer received before
pub received_text : (IsWhole : Option (List ℕ) → Type 0) (old mid new : Option (List ℕ)) (text : List ℕ)
    → Grows old mid → AppendsPrefix mid new text → ((whole : Option (List ℕ)) → Appends mid whole text → IsWhole whole)
    → ReceivesPrefix IsWhole old new
received_text IsWhole old mid new text grown prefix makes =
    let whole = append_known new prefix.rest in
    let behind : Appends mid whole (prefix.part ++ prefix.rest) =
    Appends-trans mid new whole prefix.part prefix.rest prefix.grown (appended new prefix.rest) in
    record {
      whole = whole;
      is_whole = makes whole (subst (Appends mid whole) (sym prefix.split) behind);
      received = (grown.0 ++ prefix.part, Appends-trans old mid new grown.0 prefix.part grown.1 prefix.grown);
      rest = (prefix.rest, appended new prefix.rest);
    }

-- a prefix of something whole that is more, behind what a writer received before
pub received_behind : (IsWhole IsMore : Option (List ℕ) → Type 0) (old mid new : Option (List ℕ)) → Grows old mid
    → ((whole : Option (List ℕ)) → IsWhole whole → IsMore whole) → ReceivesPrefix IsWhole mid new
    → ReceivesPrefix IsMore old new
received_behind IsWhole IsMore old mid new grown more prefix = record {
  whole = prefix.whole;
  is_whole = more prefix.whole prefix.is_whole;
  received = (
    grown.0 ++ prefix.received.0,
    Appends-trans old mid new grown.0 prefix.received.0 grown.1 prefix.received.1,
  );
  rest = prefix.rest;
}

-- a prefix of something whole, by other words
pub received_so : (IsWhole Others : Option (List ℕ) → Type 0) (old new : Option (List ℕ))
    → ((whole : Option (List ℕ)) → IsWhole whole → Others whole) → ReceivesPrefix IsWhole old new
    → ReceivesPrefix Others old new
received_so IsWhole Others old new so prefix = record {
  whole = prefix.whole;
  is_whole = so prefix.whole prefix.is_whole;
  received = prefix.received;
  rest = prefix.rest;
}

-- a prefix of a text, which may be all that a writer receives
pub received_page : (IsWhole : Option (List ℕ) → Type 0) (old new : Option (List ℕ)) (text : List ℕ)
    → IsWhole old → ((whole : Option (List ℕ)) → Appends old whole text → IsWhole whole)
    → (new ≡ old) ⊎ AppendsPrefix old new text → ReceivesPrefix IsWhole old new
received_page IsWhole old new text none makes (inl same) = received_none IsWhole old new same none
received_page IsWhole old new text none makes (inr prefix) =
    received_text IsWhole old old new text ([], Appends-nil old) prefix makes
