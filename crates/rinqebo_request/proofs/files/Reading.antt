-- Files that a request names.
use Rattle.std.proofs.Common.{◌≡◌, ◌<◌, ◌+◌, ◌∙◌, ℕ, List, [], ◌∷◌, ◌++◌, true, false, Result, Ok, Err, IfOk, ap, get_or, length, map, subst, sym, take}
use Rattle.std.proofs.lemmas.Bool.{false≢true}
use Rattle.std.proofs.lemmas.List.{map-append, take_more}
use Rattle.std.proofs.lemmas.Slice.Zip.{all_zipped_more}
use Rattle.std.specs.List.{AllZip}
use Rattle.nextest_sources.specs.Sources.{Outcome, not_found, file_view}
use Rattle.nextest_sources.specs.declared.sources.FileInput.{FileInput}
use Rattle.rinqebo_request.specs.Files.Gathering.{is_discovered, own_path, IsOwnFile, IsReadAt}
use Rattle.rinqebo_request.specs.declared.request.ConfigFile.{ConfigFile}

-- the workspace's own file is read
pub own_read : {E : Type 0} (gives : List ℕ → Outcome → Type 0) (root path : List ℕ) (named : ConfigFile)
    (r : Result FileInput E) → is_discovered named ≡ true → path ≡ own_path root
    → IfOk r (λ file. IsReadAt gives path (file_view file)) → IfOk r (λ file. IsOwnFile gives root named (file_view file))
own_read gives root path named (Err e) is same read = tt
own_read gives root path named (Ok file) is same read = record {
  path_is = read.path_is ∙ same;
  given = λ _. subst (λ p. gives p (file_view file).outcome) same read.given;
  unread = λ no. absurd (false≢true (sym no ∙ is));
}

-- the workspace's own file is not read
pub own_unread : {E : Type 0} (gives : List ℕ → Outcome → Type 0) (root path : List ℕ) (named : ConfigFile)
    (r : Result FileInput E) → is_discovered named ≡ false → path ≡ own_path root
    → IfOk r (λ file. file_view file ≡ record { path = path; outcome = not_found })
    → IfOk r (λ file. IsOwnFile gives root named (file_view file))
own_unread gives root path named (Err e) is same read = tt
own_unread gives root path named (Ok file) is same read = record {
  path_is = ap (λ f. f.path) read ∙ same;
  given = λ yes. absurd (false≢true (sym is ∙ yes));
  unread = λ _. ap (λ f. f.outcome) read;
}

-- one more of each of two lists
pub files_more : {A B Y : Type 0} (R : A → Y → Type 0) (view : B → Y) (named : List A) (i : ℕ) (x d : A)
    → i < length named → x ≡ get_or named i d
    → (now new : List B) (file : B) → AllZip R (take i named) (map view now) → R x (view file) → new ≡ now ++ file ∷ []
    → AllZip R (take (i + 1) named) (map view new)
files_more R view named i x d below same now new file before is more =
    let taken : take (i + 1) named ≡ take i named ++ x ∷ [] =
    take_more named i d below ∙ ap (λ y. take i named ++ y ∷ []) (sym same) in
    rw (taken, more, map-append view now (file ∷ [])) (all_zipped_more R (take i named) (map view now) x (view file) before is)
