-- The keys of the table at a path are what is there.
use Rattle.std.proofs.Common.{◌≡◌, ℕ, Bool, true, false, ◌||◌, Ordering, Less, Equal, Greater, nat_cmp, is_eq, List, [], ◌∷◌, ◌++◌, Option, Some, None, is_some, option_and_then, refl, ◌∙◌}
use Rattle.std.proofs.lemmas.Map.Text.{is_eq-slice_cmp}
use Rattle.std.proofs.lemmas.Slice.Eq.{bytes_eq-Decides}
use Rattle.std.specs.Cmp.Lexicographic.{slice_cmp}
use Rattle.std.specs.List.{AllByRecursion}
use Rattle.std.specs.Option.{option_map_or}
use Rattle.std.specs.Ordering.{match_ordering}
use Rattle.std.specs.Str.{bytes_eq}
use Rattle.nextest_tree.specs.Node.{Node, table, array, text, int, bool, opaque, Entries, no_entries, entry, get, keys}
use Rattle.nextest_documents.specs.Shown.{Path, node_at}
use Rattle.nextest_documents.specs.Text.{tree_of}
use Rattle.nextest_places.specs.Standing.{has_id, is_among, keys_at, stands_in}

among_or : (o : Ordering) (b : Bool) (rest : List (List ℕ)) (id : List ℕ) (n : Node) (found : Option Node)
    → is_eq o ≡ b → is_among rest id ≡ is_some found
    → (b || is_among rest id) ≡ is_some (match_ordering o found (Some n) found)
among_or Less b rest id n found e more = rw (← e) more
among_or Equal b rest id n found e more = rw (← e) refl
among_or Greater b rest id n found e more = rw (← e) more

among_keys : (es : Entries) (id : List ℕ) → is_among (keys es) id ≡ is_some (get id es)
among_keys no_entries id = refl
among_keys (entry l n es) id =
    among_or (slice_cmp nat_cmp id l) (bytes_eq id l) (keys es) id n (get id es) (is_eq-slice_cmp id l)
    (among_keys es id)

some_there : (o : Option Node) → is_some o ≡ is_some (option_and_then (node_at []) o)
some_there None = refl
some_there (Some n) = refl

below : (path : Path) (id : List ℕ) (o : Option Node) → ((n : Node) → is_among (keys_at path n) id ≡ has_id path n id)
    → is_among (option_map_or (keys_at path) o []) id ≡ is_some (option_and_then (node_at (path ++ id ∷ [])) o)
below path id None same = refl
below path id (Some n) same = same n

pub among_path : (path : Path) (n : Node) (id : List ℕ) → is_among (keys_at path n) id ≡ has_id path n id
among_path [] (table es) id = among_keys es id ∙ some_there (get id es)
among_path [] (array ns) id = refl
among_path [] (text s) id = refl
among_path [] (int z) id = refl
among_path [] (bool b) id = refl
among_path [] opaque id = refl
among_path (k ∷ path) (table es) id = below path id (get k es) (λ n. among_path path n id)
among_path (k ∷ path) (array ns) id = refl
among_path (k ∷ path) (text s) id = refl
among_path (k ∷ path) (int z) id = refl
among_path (k ∷ path) (bool b) id = refl
among_path (k ∷ path) opaque id = refl

-- the ids of a document are those that are in its text
pub exact_is : (path : Path) (body : List ℕ) (n : Node) (ids : List (List ℕ)) → tree_of body ≡ Some n
    → ids ≡ keys_at path n → (id : List ℕ) → is_among ids id ≡ stands_in path body id
unfolding stands_in
exact_is path body n ids is all id = rw (all, is) (among_path path n id)

-- each of some ids is one of them
or_true : (a : Bool) → (a || true) ≡ true
or_true true = refl
or_true false = refl

pub each_among : (ids : List (List ℕ)) (test : List ℕ → Bool)
    → ((id : List ℕ) → is_among ids id ≡ true → test id ≡ true) → AllByRecursion (λ id. test id ≡ true) ids
each_among [] test h = tt
each_among (x ∷ ids) test h = (
  h x (rw ((bytes_eq-Decides x x).1 refl) refl),
  each_among ids test (λ id e. h id (rw e (or_true (bytes_eq id x)))),
)
