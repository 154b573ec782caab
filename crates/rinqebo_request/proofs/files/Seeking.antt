-- A layer is sought among others, one after another.
use Rattle.std.proofs.Common.{◌≡◌, ◌≢◌, ◌∙◌, ◌<◌, ◌+◌, ℕ, List, [], ◌∷◌, ◌++◌, ap, get_or, length, refl, subst, sym, take, Some}
use Rattle.std.proofs.lemmas.List.{take_more}
use Rattle.std.proofs.lemmas.Option.{slice_get_read}
use Rattle.std.specs.List.{AllByRecursion}
use Rattle.std.specs.Option.{option_and_then}
use Rattle.nextest_sources.specs.Sources.{Source}
use Rattle.rinqebo_request.specs.Files.Origins.{HasNoFile, IsFileAt, reported_file}
use Rattle.rinqebo_request.specs.declared.files.layers.Layer.{Layer}

all_pushed : {X : Type 0} (P : X → Type 0) (xs : List X) (x : X) → AllByRecursion P xs → P x
    → AllByRecursion P (xs ++ x ∷ [])
all_pushed P [] x all holds = (holds, tt)
all_pushed P (y ∷ xs) x all holds = (all.0, all_pushed P xs x all.1 holds)

-- one layer more is not the file
pub none_more : (layers : List Layer) (file : Source) (i m : ℕ) (layer : Layer) → i < length layers → m ≡ i + 1
    → layer ≡ get_or layers i layer → HasNoFile (take i layers) file → reported_file layer.source ≢ Some file
    → HasNoFile (take m layers) file
none_more layers file i m layer within next at none other =
    let taken : take m layers ≡ take i layers ++ layer ∷ [] =
    ap (λ n. take n layers) next ∙ take_more layers i layer within
    ∙ ap (λ l. take i layers ++ l ∷ []) (sym at) in
    subst (λ ls. HasNoFile ls file) (sym taken)
    (all_pushed (λ l. reported_file l.source ≢ Some file) (take i layers) layer none other)

-- a layer that is the file
pub file_at : (layers : List Layer) (file : Source) (i : ℕ) (layer : Layer) → i < length layers
    → layer ≡ get_or layers i layer → reported_file layer.source ≡ Some file → IsFileAt layers file i
file_at layers file i layer within at is =
    ap (option_and_then (λ l. reported_file l.source)) (slice_get_read layers (length layers) i layer refl within at) ∙ is
