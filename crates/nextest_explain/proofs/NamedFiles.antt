-- Files that options name.
use Rattle.std.proofs.Common.{◌≡◌, ◌<◌, ◌+◌, ℕ, Bor, List, [], ◌∷◌, ◌++◌, ◌∙◌, Option, None, Some, ap, sym, length, map, take, get_or, option_map}
use Rattle.std.proofs.lemmas.List.{take_more, map-append}
use Rattle.std.specs.List.{AllZip}
use Rattle.std.specs.Option.{option_copied}
use Rattle.nextest_config.proofs.AreRows.{zip_push}
use Rattle.nextest_sources.specs.Sources.{file_view}
use Rattle.nextest_sources.specs.declared.sources.FileInput.{FileInput}

-- a file through a reference is the same
pub seen_through : (lent : Option (Bor FileInput)) (file : Option FileInput) → option_copied lent ≡ file
    → option_map (λ f. file_view f.now) lent ≡ option_map file_view file
seen_through None file same = ap (option_map file_view) same
seen_through (Some f) file same = ap (option_map file_view) same

-- one more of each of two lists
pub files_more : {A B Y : Type 0} (R : A → Y → Type 0) (view : B → Y) (named : List A) (i : ℕ) (x d : A)
    → i < length named → x ≡ get_or named i d
    → (now new : List B) (file : B) → AllZip R (take i named) (map view now) → R x (view file) → new ≡ now ++ file ∷ []
    → AllZip R (take (i + 1) named) (map view new)
files_more R view named i x d below same now new file before is more =
    let taken : take (i + 1) named ≡ take i named ++ x ∷ [] =
    take_more named i d below ∙ ap (λ y. take i named ++ y ∷ []) (sym same) in
    rw (taken, more, map-append view now (file ∷ [])) (zip_push R (take i named) (map view now) x (view file) before is)
