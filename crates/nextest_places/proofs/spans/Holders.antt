-- Lists and tables that are open, of which one counts one more item.
use Rattle.std.proofs.Common.{◌≡◌, ℕ, zero, suc, List, [], ◌∷◌, map, set, get_or, refl, ap}
use Rattle.nextest_places.specs.declared.spans.reader.Holder.{Holder}
use Rattle.nextest_places.specs.Spans.Turns.{holder_pair}

pub pairs_set : (hs : List Holder) (k : ℕ) (h d : Holder) → holder_pair h ≡ holder_pair (get_or hs k d) → map holder_pair (set hs k h) ≡ map holder_pair hs
pairs_set [] k h d same = refl
pairs_set (x ∷ xs) zero h d same = ap (λ p. p ∷ map holder_pair xs) same
pairs_set (x ∷ xs) (suc k) h d same = ap (λ ps. holder_pair x ∷ ps) (pairs_set xs k h d same)
