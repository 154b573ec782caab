-- What is in whole lines is in a longer document, as nodes.
use Rattle.std.proofs.Common.{◌≡◌, ℕ, zero, suc, true, Ordering, Less, Equal, Greater, nat_cmp, List, [], ◌∷◌, ◌++◌, Option, Some, None, is_some, option_map, option_and_then, refl, sym, ap, ◌∙◌}
use Rattle.std.proofs.lemmas.Option.{none-some, same_Some}
use Rattle.std.specs.Cmp.Lexicographic.{slice_cmp}
use Rattle.std.specs.Ordering.{match_ordering}
use Rattle.toml.specs.Data.{Data, string, integer, float, boolean, datetime, array, table, Members, no_members, member, get_member, Items, no_items, item, get_item}
use Rattle.toml.specs.Parse.{parse_document}
use Rattle.nextest_tree.specs.Node.{Node, get}
use Rattle.nextest_tree.specs.Node as nodes
use Rattle.nextest_documents.specs.Text.{tree_of}
use Rattle.nextest_documents.specs.Value.{from_data, from_items, from_members}
use Rattle.nextest_places.specs.declared.step.Step.{Step}
use Rattle.nextest_places.specs.declared.step.Step.TheVariants.{Key, Position}
use Rattle.nextest_places.specs.Path.{has_path, item_at, stands_at, step_into}
use Rattle.nextest_places.proofs.Stands.{step_in, value_at}
use Rattle.nextest_places.proofs.Documents.{documents_keep}

get_at : (o : Ordering) (d : Data) (found : Option Data) (seen : Option Node) → seen ≡ option_map from_data found
    → match_ordering o seen (Some (from_data d)) seen ≡ option_map from_data (match_ordering o found (Some d) found)
get_at Less d found seen e = e
get_at Equal d found seen e = refl
get_at Greater d found seen e = e

-- the nodes of a table's members are at the same keys
get_member_is : (k : List ℕ) (ms : Members) → get k (from_members ms) ≡ option_map from_data (get_member k ms)
get_member_is k no_members = refl
get_member_is k (member l d ms) =
    get_at (slice_cmp nat_cmp k l) d (get_member k ms) (get k (from_members ms)) (get_member_is k ms)

-- the nodes of an array's items are at the same positions
get_item_is : (i : ℕ) (ds : Items) → item_at i (from_items ds) ≡ option_map from_data (get_item i ds)
get_item_is i no_items = refl
get_item_is zero (item d ds) = refl
get_item_is (suc i) (item d ds) = get_item_is i ds

step_is : (step : Step) (d : Data) → step_into step (from_data d) ≡ option_map from_data (step_in step d)
step_is (Key k) (table ms) = get_member_is k.now ms
step_is (Key k) (string s) = refl
step_is (Key k) (integer z) = refl
step_is (Key k) (float x) = refl
step_is (Key k) (boolean b) = refl
step_is (Key k) (datetime dt) = refl
step_is (Key k) (array ds) = refl
step_is (Position i) (table ms) = refl
step_is (Position i) (string s) = refl
step_is (Position i) (integer z) = refl
step_is (Position i) (float x) = refl
step_is (Position i) (boolean b) = refl
step_is (Position i) (datetime dt) = refl
step_is (Position i) (array ds) = get_item_is i ds

inside : (path : List Step) (o : Option Data)
    → ((d : Data) → has_path path (from_data d) ≡ is_some (value_at path d))
    → is_some (option_and_then (stands_at path) (option_map from_data o)) ≡ is_some (option_and_then (value_at path) o)
inside path None same = refl
inside path (Some d) same = same d

pub at_path : (path : List Step) (d : Data) → has_path path (from_data d) ≡ is_some (value_at path d)
at_path [] d = refl
at_path (step ∷ path) d = rw (step_is step d) (inside path (step_in step d) (λ e. at_path path e))

document_is : (o : Option Members) (n : Node) → option_map (λ ms. nodes.table (from_members ms)) o ≡ Some n
    → (ms : Members) × (o ≡ Some ms) × (from_data (table ms) ≡ n)
document_is None n h = absurd (none-some n h)
document_is (Some ms) n h = (ms, refl, same_Some _ n h)

pub longer_keep : (text more : List ℕ) (short long : Node) (path : List Step)
    → tree_of (text ++ 10 ∷ []) ≡ Some short → tree_of (text ++ 10 ∷ more) ≡ Some long
    → has_path path short ≡ true → has_path path long ≡ true
longer_keep text more short long path a b there =
    let (one, read, is) = document_is (parse_document (text ++ 10 ∷ [])) short a in
    let (two, read_long, is_long) = document_is (parse_document (text ++ 10 ∷ more)) long b in
    let before : is_some (value_at path (table one)) ≡ true =
    sym (at_path path (table one)) ∙ ap (has_path path) is ∙ there in
    sym (ap (has_path path) is_long) ∙ at_path path (table two)
    ∙ documents_keep text more one two read read_long path before
