-- Names that are new among those that came.
use Rattle.std.proofs.Common.{◌≡◌, ◌∙◌, ◌++◌, ◌∷◌, [], ◌||◌, ℕ, List, Bool, true, false, cond, ap, refl, sym}
use Rattle.std.specs.BTreeSet.{BTreeSet}
use Rattle.std.specs.Borrow.{Bor}
use Rattle.std.specs.Str.{bytes_eq}
use Rattle.std.proofs.lemmas.List.{append_assoc, append-nil, map-append}
use Rattle.std.proofs.lemmas.List.Folds.{list_any-append}
use Rattle.nextest_inheritance.specs.View.{has_name}
use Rattle.nextest_tree.specs.Schema.{is_one_of}
use Rattle.rinqebo_faults.specs.Hints.{texts}
use Rattle.rinqebo_findings.specs.Profiles.{AreNew, new_names, unless_earlier}

-- the new names of some, and of one more
pub new_names_more : (earlier names : List (List ℕ)) (name : List ℕ)
    → new_names earlier (names ++ name ∷ []) ≡ new_names earlier names ++ unless_earlier (earlier ++ names) name
new_names_more earlier [] name =
    append-nil (unless_earlier earlier name)
    ∙ ap (λ before. unless_earlier before name) (sym (append-nil earlier))
new_names_more earlier (first ∷ names) name =
    ap (λ more. unless_earlier earlier first ++ more) (new_names_more (earlier ++ first ∷ []) names name)
    ∙ sym (append_assoc (unless_earlier earlier first) (new_names (earlier ++ first ∷ []) names)
    (unless_earlier ((earlier ++ first ∷ []) ++ names) name))
    ∙ ap (λ before. new_names earlier (first ∷ names) ++ unless_earlier before name)
    (append_assoc earlier (first ∷ []) names)

one_or : (same old : Bool) → cond same true old ≡ (old || (same || false))
one_or true true = refl
one_or true false = refl
one_or false true = refl
one_or false false = refl

-- one more name came
pub came_more : (came : List (List ℕ)) (name : List ℕ) (seen more : BTreeSet (Bor (List ℕ)))
    (names all : List (Bor (List ℕ)))
    → ((other : List ℕ) → has_name more other ≡ cond (bytes_eq name other) true (has_name seen other))
    → texts all ≡ texts names ++ unless_earlier came name
    → AreNew came seen names → AreNew (came ++ name ∷ []) more all
came_more came name seen more names all sees adds new =
    record {
      has = λ other. sees other ∙ ap (cond (bytes_eq name other) true) (new.has other)
          ∙ one_or (bytes_eq name other) (is_one_of came other)
          ∙ sym (list_any-append (λ one. bytes_eq one other) came (name ∷ []));
      are = adds ∙ ap (λ front. front ++ unless_earlier came name) new.are ∙ sym (new_names_more [] came name);
    }

-- a name that did not come before
pub new_added : (came : List (List ℕ)) (name : Bor (List ℕ)) (names all : List (Bor (List ℕ)))
    → is_one_of came name.now ≡ false → all ≡ names ++ name ∷ []
    → texts all ≡ texts names ++ unless_earlier came name.now
new_added came name names all new is =
    ap texts is ∙ map-append (λ (word : Bor (List ℕ)). word.now) names (name ∷ [])
    ∙ ap (λ (b : Bool). texts names ++ cond b [] (name.now ∷ [])) (sym new)

-- one that came before
pub old_left : (came : List (List ℕ)) (name : List ℕ) (names : List (Bor (List ℕ)))
    → is_one_of came name ≡ true → texts names ≡ texts names ++ unless_earlier came name
old_left came name names old =
    sym (append-nil (texts names)) ∙ ap (λ (b : Bool). texts names ++ cond b [] (name ∷ [])) (sym old)

-- Of all names some came, and others are left.
pub record Left (all left : List (List ℕ)) (seen : BTreeSet (Bor (List ℕ)))
    (names : List (Bor (List ℕ))) : Type 0 where
  pub came : List (List ℕ)
  pub whole : came ++ left ≡ all
  pub new : AreNew came seen names
