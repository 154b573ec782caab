-- Entries of leaves that are shown as they are written.
use Rattle.std.proofs.Common.{◌≡◌, ◌<◌, ◌+◌, ◌∙◌, ◌||◌, ℕ, List, [], ◌∷◌, ◌++◌, Bool, Bor, true, false, cond, ap, filter, get_or, length, map, refl, string_bytes, subst, sym, take}
use Rattle.std.proofs.lemmas.List.{append-nil, map-append, take_more}
use Rattle.std.proofs.lemmas.List.Elements.{filter-append}
use Rattle.std.proofs.lemmas.Slice.Zip.{all_zipped_more}
use Rattle.std.specs.List.{AllZip, list_any}
use Rattle.nextest_documents.specs.Layers.{keys_view}
use Rattle.nextest_places.specs.declared.step.Step.{Step}
use Rattle.rinqebo_request.specs.Files.Origins.{IsPathPlace}
use Rattle.rinqebo_request.specs.declared.files.layers.Layer.{Layer}
use Rattle.rinqebo_report.specs.declared.origin.FilePlace.{FilePlace}
use Rattle.rinqebo_report.specs.declared.origin.Origin.{Origin}
use Rattle.rinqebo_report.specs.declared.origin.Origin.TheVariants as kinds
use Rattle.rinqebo_report.specs.declared.origin.Part.{Part}
use Rattle.rinqebo_origins.specs.Origins.{step_view}
use Rattle.rinqebo_origins.specs.SpelledLeaves.{IsOriginOfLeaf, IsPlacedOrigin, Spelled, base_steps, is_under, part_at}

module _ {X Y Z : Type 0} (view : X → Y) (p : Y → Bool) (R : Y → Z → Type 0) (xs : List X) (n : ℕ) (x : X)
    (below : n < length xs) (at : x ≡ get_or xs n x) where
  -- the elements so far and the next one that pass a test
  passing : (b : Bool) → p (view x) ≡ b
      → filter p (map view (take (n + 1) xs)) ≡ filter p (map view (take n xs)) ++ cond b (view x ∷ []) []
  passing b passes =
      ap (λ ys. filter p (map view ys)) (take_more xs n x below ∙ ap (λ z. take n xs ++ z ∷ []) (sym at))
      ∙ ap (filter p) (map-append view (take n xs) (x ∷ []))
      ∙ filter-append p (map view (take n xs)) (view x ∷ [])
      ∙ ap (λ t. filter p (map view (take n xs)) ++ cond t (view x ∷ []) []) passes

  -- one more that passes and is reported
  pub passes_more : (old new : List Z) (z : Z) → AllZip R (filter p (map view (take n xs))) old
      → p (view x) ≡ true → R (view x) z → new ≡ old ++ z ∷ []
      → AllZip R (filter p (map view (take (n + 1) xs))) new
  passes_more old new z before passes is more =
      subst (λ ys. AllZip R ys new) (sym (passing true passes))
      (subst (AllZip R (filter p (map view (take n xs)) ++ view x ∷ [])) (sym more)
      (all_zipped_more R (filter p (map view (take n xs))) old (view x) z before is))

  -- one more that does not pass
  pub passes_not : (old new : List Z) → AllZip R (filter p (map view (take n xs))) old
      → p (view x) ≡ false → new ≡ old → AllZip R (filter p (map view (take (n + 1) xs))) new
  passes_not old new before fails kept =
      subst (λ ys. AllZip R ys new)
      (sym (passing false fails ∙ append-nil (filter p (map view (take n xs)))))
      (subst (AllZip R (filter p (map view (take n xs)))) (sym kept) before)

-- what is written at the place of a leaf is the leaf
pub leaf_origin : (layers : List Layer) (leaf : Spelled) (part : Part) (place : FilePlace) (path : List Step)
    (origin : Origin) → part ≡ part_at leaf.steps
    → map step_view path ≡ base_steps leaf.spot.profile ++ leaf.steps
    → IsPathPlace layers leaf.spot.layer path place → IsPlacedOrigin leaf.spot.profile part place origin
    → IsOriginOfLeaf layers leaf origin
leaf_origin layers leaf part place path kinds.BuiltIn same spelled there is = absurd is
leaf_origin layers leaf part place path kinds.DefaultTable same spelled there is = absurd is
leaf_origin layers leaf part place path (kinds.Written written) same spelled there is = (
  is.0,
  is.1 ∙ same,
  record {
    path = path;
    spelled = spelled;
    place_reported = subst (IsPathPlace layers leaf.spot.layer path) (sym is.2) there;
  },
)
leaf_origin layers leaf part place path (kinds.File found) same spelled there is = (
  is.0,
  record {
    path = path;
    spelled = spelled;
    place_reported = subst (IsPathPlace layers leaf.spot.layer path) (sym is.1) there;
  },
)

-- one of what is made of some things passes a test
any_made : {X Y : Type 0} (p : Y → Bool) (f : X → Y) (xs : List X) → list_any p (map f xs) ≡ list_any (λ x. p (f x)) xs
any_made p f [] = refl
any_made p f (x ∷ xs) = ap (λ b. p (f x) || b) (any_made p f xs)

-- whether keys select a text, as code holds them
pub asked_here : (keys : List (Bor (List ℕ))) (text other : List ℕ) → text ≡ other
    → list_any (λ name. is_under text name.now) keys ≡ list_any (λ name. is_under other name) (keys_view keys)
asked_here keys text other same =
    ap (λ t. list_any (λ name. is_under t name.now) keys) same
    ∙ sym (any_made (λ name. is_under other name) (λ name. name.now) keys)
