-- Paths by keys, as steps.
use Rattle.std.proofs.Common.{◌≡◌, ℕ, false, ◌==◌, List, [], ◌∷◌, ◌++◌, length, arith, Bor, Option, Some, None, is_some, option_and_then, refl, sym, ◌∙◌}
use Rattle.std.proofs.lemmas.Bool.Decides.{nat_tests}
use Rattle.std.specs.Option.{option_map_or}
use Rattle.nextest_tree.specs.Node.{Node, table, array, text, int, bool, opaque, get}
use Rattle.nextest_documents.specs.Shown.{Path, node_at}
use Rattle.nextest_documents.specs.Text.{tree_of}
use Rattle.nextest_places.specs.declared.place.Lines.{Lines}
use Rattle.nextest_places.specs.declared.step.Step.{Step}
use Rattle.nextest_places.specs.declared.step.Step.TheVariants.{Key, Position}
use Rattle.nextest_places.specs.Ids.{AreKeys, AreStepsOf}
use Rattle.nextest_places.specs.Law.{LongerDocumentsKeep}
use Rattle.nextest_places.specs.Lines.{first_lines}
use Rattle.nextest_places.specs.Order.{IsPlace}
use Rattle.nextest_places.specs.Path.{has_path, stands_at}
use Rattle.nextest_places.specs.Place.{IsPlaceOfPath, text_has}
use Rattle.nextest_places.specs.Standing.{has_id, stands_in}
use Rattle.nextest_places.proofs.Nodes.{longer_keep}

-- the steps of a path
abbrev steps_of : Path → List Step
steps_of [] = []
steps_of (k ∷ path) = Key (record { ref_ptr = (0, 0); now = k }) ∷ steps_of path

are_steps : (path : Path) → AreStepsOf path (steps_of path)
are_steps [] = tt
are_steps (k ∷ path) = (refl, are_steps path)

pub are_keys : (path : Path) (steps : List Step) → AreStepsOf path steps → AreKeys steps
are_keys [] [] h = tt
are_keys [] (Key k ∷ steps) h = absurd h
are_keys [] (Position i ∷ steps) h = absurd h
are_keys (key ∷ path) [] h = absurd h
are_keys (key ∷ path) (Key k ∷ steps) h = are_keys path steps h.1
are_keys (key ∷ path) (Position i ∷ steps) h = absurd h

-- one more key
pub steps_more : (path : Path) (steps : List Step) (id : Bor (List ℕ)) → AreStepsOf path steps
    → AreStepsOf (path ++ id.now ∷ []) (steps ++ Key id ∷ [])
steps_more [] [] id h = (refl, tt)
steps_more [] (Key k ∷ steps) id h = absurd h
steps_more [] (Position i ∷ steps) id h = absurd h
steps_more (key ∷ path) [] id h = absurd h
steps_more (key ∷ path) (Key k ∷ steps) id h = (h.0, steps_more path steps id h.1)
steps_more (key ∷ path) (Position i ∷ steps) id h = absurd h

pub not_root : (steps : List Step) (id : Bor (List ℕ)) → (length (steps ++ Key id ∷ []) == 0) ≡ false
not_root [] id = refl
not_root (step ∷ steps) id = grind (arith, nat_tests)

inside : (path : Path) (steps : List Step) (o : Option Node)
    → ((n : Node) → is_some (node_at path n) ≡ has_path steps n)
    → is_some (option_and_then (node_at path) o) ≡ is_some (option_and_then (stands_at steps) o)
inside path steps None same = refl
inside path steps (Some n) same = same n

-- a node has a path where it has its steps
has_steps : (path : Path) (steps : List Step) → AreStepsOf path steps → (n : Node)
    → is_some (node_at path n) ≡ has_path steps n
has_steps [] [] h n = refl
has_steps [] (Key k ∷ steps) h n = absurd h
has_steps [] (Position i ∷ steps) h n = absurd h
has_steps (key ∷ path) [] h n = absurd h
has_steps (key ∷ path) (Position i ∷ steps) h n = absurd h
has_steps (key ∷ path) (Key k ∷ steps) h (table es) =
    rw h.0 (inside path steps (get key es) (λ n. has_steps path steps h.1 n))
has_steps (key ∷ path) (Key k ∷ steps) h (array ns) = refl
has_steps (key ∷ path) (Key k ∷ steps) h (text s) = refl
has_steps (key ∷ path) (Key k ∷ steps) h (int z) = refl
has_steps (key ∷ path) (Key k ∷ steps) h (bool b) = refl
has_steps (key ∷ path) (Key k ∷ steps) h opaque = refl

of_document : (path : Path) (id : List ℕ) (steps : List Step) (o : Option Node)
    → ((n : Node) → has_id path n id ≡ has_path steps n)
    → option_map_or (λ n. has_id path n id) o false ≡ option_map_or (has_path steps) o false
of_document path id steps None same = refl
of_document path id steps (Some n) same = same n

module _ (path : Path) (steps : List Step) (are : AreStepsOf path steps) (id : Bor (List ℕ)) where
  -- an id is in a text where its path is there
  pub stands_is : (body : List ℕ) → stands_in path body id.now ≡ text_has (steps ++ Key id ∷ []) body
  unfolding stands_in
  stands_is body = of_document path id.now (steps ++ Key id ∷ []) (tree_of body)
      (λ n. has_steps (path ++ id.now ∷ []) (steps ++ Key id ∷ []) (steps_more path steps id are) n)

  -- and has the place of its path
  pub id_place : (body : List ℕ) (lines : Lines) → IsPlaceOfPath (steps ++ Key id ∷ []) body lines
      → IsPlace path body id.now lines.last
  id_place body lines is = record {
    there = stands_is (first_lines lines.last body) ∙ is.there;
    least = λ n less. stands_is (first_lines n body) ∙ is.least n less;
  }

-- the law of longer documents, by keys
pub longer_keep_keys : LongerDocumentsKeep
longer_keep_keys before more short long path a b there =
    let are = are_steps path in
    has_steps path (steps_of path) are long
    ∙ longer_keep before more short long (steps_of path) a b (sym (has_steps path (steps_of path) are short) ∙ there)
