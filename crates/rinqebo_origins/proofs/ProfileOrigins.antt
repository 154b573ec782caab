-- Where values of profiles come from, by the grounds that were found.
use Rattle.std.proofs.Common.{◌≡◌, ◌≢◌, ◌∙◌, ◌<◌, ◌==◌, ℕ, zero, suc, Bor, List, [], ◌∷◌, ◌++◌, Bool, false, Option, Some, Vec, Global, vec_len, eq-eqb, option_map, get_or, length, map, slice_get, ap, sym, subst, unwrap_or, refl}
use Rattle.std.proofs.lemmas.Bool.{false≢true}
use Rattle.std.proofs.lemmas.Option.{slice_get_read}
use Rattle.std.specs.List.{AllZip}
use Rattle.nextest_documents.specs.Grounds.{AreNearestGrounds}
use Rattle.nextest_documents.specs.declared.grounds.Grounds.{Grounds}
use Rattle.nextest_tables.specs.Written.{Name}
use Rattle.rinqebo_request.specs.declared.files.layers.Layer.{Layer}
use Rattle.rinqebo_report.specs.declared.origin.Origin.{Origin}
use Rattle.rinqebo_origins.specs.ProfileOrigins.{AreWrittenOrigins, IsLayerOrigin, key_path}
use Rattle.rinqebo_origins.specs.Trees.{trees_of}

at_middle : {X : Type 0} (xs : List X) (x : X) (ys : List X) → slice_get (xs ++ x ∷ ys) (length xs) ≡ Some x
at_middle [] x ys = refl
at_middle (y ∷ xs) x ys = at_middle xs x ys

mapped_at : {X Y : Type 0} (f : X → Y) (xs : List X) (i : ℕ) → slice_get (map f xs) i ≡ option_map f (slice_get xs i)
mapped_at f [] i = refl
mapped_at f (x ∷ xs) zero = refl
mapped_at f (x ∷ xs) (suc i) = mapped_at f xs i

-- the profile that writes a key is in the chain
nearest_at : (layers : List Layer) (chain : List Name) (table : Option (List ℕ)) (name : List ℕ)
    (grounds : Grounds) (near : AreNearestGrounds (trees_of layers) chain (key_path table name) grounds)
    → slice_get chain grounds.profile ≡ Some near.name
nearest_at layers chain table name grounds near =
    (λ i. slice_get (near.splits i) (sym near.profile i)) ∙ at_middle near.nearer near.name near.farther

-- what is at the place of that profile is its name
pub name_at : (layers : List Layer) (chain : List (Bor Name)) (table : Option (List ℕ)) (name : List ℕ)
    (grounds : Grounds)
    (near : AreNearestGrounds (trees_of layers) (map (λ name. name.now) chain) (key_path table name) grounds)
    (profile : Bor Name) → grounds.profile < length chain → profile ≡ get_or chain grounds.profile profile
    → profile.now ≡ near.name
name_at layers chain table name grounds near profile within at =
    let read = slice_get_read chain (length chain) grounds.profile profile refl within at in
    ap (λ o. unwrap_or o profile.now)
    (sym (mapped_at (λ name. name.now) chain grounds.profile ∙ ap (option_map (λ name. name.now)) read)
    ∙ nearest_at layers (map (λ name. name.now) chain) table name grounds near)

-- a list that is not empty has elements
pub some_of : {X : Type 0} (v : Vec X Global) {b : Bool} → b ≡ (vec_len v == 0) → b ≡ false → v.items ≢ []
some_of v empty is none = false≢true (sym is ∙ empty ∙ eq-eqb (vec_len v) 0 (v.ok.0 ∙ ap length none))

-- what a profile of the chain writes is reported by the layers that show it
pub reported_by : (layers : List Layer) (chain : List Name) (table : Option (List ℕ)) (name : List ℕ)
    (grounds : Grounds) (near : AreNearestGrounds (trees_of layers) chain (key_path table name) grounds)
    (profile : Name) (origins : List Origin) → profile ≡ near.name
    → AllZip (IsLayerOrigin layers profile table name) grounds.layers.items origins
    → AreWrittenOrigins layers chain table name origins
reported_by layers chain table name grounds near profile origins same told = record {
  nearer = near.nearer;
  profile = near.name;
  farther = near.farther;
  splits = near.splits;
  nearest = near.nearest;
  writes = near.writes;
  positions = grounds.layers.items;
  are_grounds = near.layers_are;
  told = subst (λ p. AllZip (IsLayerOrigin layers p table name) grounds.layers.items origins) same told;
}

-- some layers are reported by some origins
pub some_reported : {A B : Type 0} (R : A → B → Type 0) (xs : List A) (ys : List B) → xs ≢ [] → AllZip R xs ys
    → ys ≢ []
some_reported R [] ys some told = absurd (some refl)
some_reported R (x ∷ xs) [] some told = absurd told
some_reported R (x ∷ xs) (y ∷ ys) some told = λ none. cc
