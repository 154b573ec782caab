-- The words of codes, one after another.
use Rattle.std.proofs.Common.{◌≡◌, ◌≢◌, ◌∙◌, ◌+◌, ◌<◌, ℕ, List, Some, ap, sym, below_more, length, get_or, slice_get}
use Rattle.std.proofs.lemmas.Option.{slice_get-get_or}

-- none of the first ones has the text
abbrev pub NoneHas : {X : Type 0} → (X → List ℕ) → List X → List ℕ → ℕ → Type 0
NoneHas {X} text xs key i = (k : ℕ) → k < i → (x : X) → slice_get xs k ≡ Some x → text x ≢ key

-- nor has one more
pub none_more : {X : Type 0} (text : X → List ℕ) (xs : List X) (key : List ℕ) (i : ℕ) (x d : X)
    → i < length xs → x ≡ get_or xs i d → NoneHas text xs key i → text x ≢ key → NoneHas text xs key (i + 1)
none_more {X} text xs key i x d below at before now =
    let here : slice_get xs i ≡ Some x = slice_get-get_or xs i d below ∙ ap Some (sym at) in
    below_more (λ k. (other : X) → slice_get xs k ≡ Some other → text other ≢ key) i before
    (λ other there. let same : other ≡ x = cc in rw same now)
