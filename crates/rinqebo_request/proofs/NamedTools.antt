-- The files of tools that the values of an option name, one after another.
use Rattle.std.proofs.Common.{◌≡◌, ◌<◌, ◌+◌, ◌∙◌, ◌++◌, ◌∷◌, [], Bor, List, ap, get_or, length, map, sym, take, ℕ}
use Rattle.std.proofs.lemmas.List.{take_more}
use Rattle.std.proofs.lemmas.Slice.Zip.{all_zipped_more}
use Rattle.std.specs.List.{AllZip}
use Rattle.rinqebo_request.specs.Requests.{AreFilesOf}
use Rattle.rinqebo_request.specs.Lines.{Line}
use Rattle.rinqebo_request.specs.declared.request.ConfigFile.{ConfigFile}
use Rattle.rinqebo_request.specs.declared.request.FileOptions.{FileOptions}

-- one more of each of two lists
pub one_more : {A B : Type 0} (R : A → B → Type 0) (named : List A) (i : ℕ) (x d : A) → i < length named → x ≡ get_or named i d → (now new : List B)
    (file : B) → AllZip R (take i named) now → R x file → new ≡ now ++ file ∷ [] → AllZip R (take (i + 1) named) new
one_more R named i x d below same now new file before is more =
    let taken : take (i + 1) named ≡ take i named ++ x ∷ [] = take_more named i d below ∙ ap (λ y. take i named ++ y ∷ []) (sym same) in
    rw (taken, more) (all_zipped_more R (take i named) now x file before is)

-- texts, wherever they are in memory
pub of_texts : {B : Type 0} (R : List ℕ → B → Type 0) (xs : List (Bor (List ℕ))) (ys : List B) → AllZip (λ x y. R x.now y) xs ys → AllZip R (map (λ x. x.now) xs) ys
of_texts R [] [] zips = zips
of_texts R [] (y ∷ ys) zips = zips
of_texts R (x ∷ xs) [] zips = zips
of_texts R (x ∷ xs) (y ∷ ys) zips = (zips.0, of_texts R xs ys zips.1)

-- files with the repository's file that was read of a line
pub with_config : (IsConfig : ConfigFile → Type 0) (line : Line) (files : FileOptions) (file : ConfigFile) → IsConfig file
    → AreFilesOf (λ other. other ≡ file) line files → AreFilesOf IsConfig line files
with_config IsConfig line files file is are =
    record {
      root = are.root;
      config_file = rw are.config_file is;
      organisation = are.organisation;
      tools = are.tools;
    }
