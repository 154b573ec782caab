-- What an item leads to is at its path.
use Rattle.std.proofs.Common.{◌≡◌, ◌<◌, ◌+◌, ℕ, zero, suc, false, List, [], ◌∷◌, ◌++◌, length, map, take, Option, Some, None, refl, sym, ap, ◌∙◌, subst, arith, append_assoc, string_bytes, inl, inr}
use Rattle.std.specs.List.{slice_get}
use Rattle.std.specs.Option.{option_and_then}
use Rattle.std.proofs.lemmas.List.{append-nil, length_push}
use Rattle.std.proofs.lemmas.Option.{none-some, same_Some}
use Rattle.toml.specs.Data.{Data, at, get}
use Rattle.nextest_places.specs.declared.step.Step.{Step}
use Rattle.nextest_places.specs.declared.step.Step.TheVariants as steps
use Rattle.nextest_places.proofs.Options.{bind_some}
use Rattle.nextest_places.specs.Spans.Nodes.{base_of, element_of, enter, joined, node_of, nodes_from, nodes_of}
use Rattle.nextest_places.specs.declared.spans.item.Item.{Item}
use Rattle.nextest_places.specs.declared.spans.item.Role.{Role}
use Rattle.nextest_places.specs.declared.spans.item.Role.TheVariants as role
use Rattle.nextest_places.specs.Spans.Paths.{IsAtPath, LeadsTo, PathStep, at_root, inner_steps, key, own_steps, path_step, position, through}
use Rattle.nextest_places.specs.Spans.Spans.{data_at, data_into, is_key}

-- ---- what is at the steps of a path

abbrev into : PathStep → Data → Option Data
into (key k) node = get k node
into (position i) node = at i node

abbrev behind : List PathStep → Data → Option Data
behind [] node = Some node
behind (step ∷ path) node = option_and_then (behind path) (into step node)

same_into : (step : Step) (node : Data) → data_into step node ≡ into (path_step step) node
same_into (steps.Key k) node = refl
same_into (steps.Position i) node = refl

same_on : (f g : Data → Option Data) → ((node : Data) → f node ≡ g node) → (next : Option Data) → option_and_then f next ≡ option_and_then g next
same_on f g same None = refl
same_on f g same (Some next) = same next

same_behind : (path : List Step) (node : Data) → data_at path node ≡ behind (map path_step path) node
same_behind [] node = refl
same_behind (step ∷ path) node =
    ap (option_and_then (data_at path)) (same_into step node)
    ∙ same_on (data_at path) (behind (map path_step path)) (same_behind path) (into (path_step step) node)

behind_append : (front path : List PathStep) (node middle : Data) → behind front node ≡ Some middle → behind (front ++ path) node ≡ behind path middle
behind_append [] path node middle is = ap (behind path) (same_Some node middle is)
behind_append (step ∷ front) path node middle is =
    let (next, there, rest) = bind_some (into step node) (behind front) middle is in
    rw there (behind_append front path next middle rest)

-- ---- the nodes of items

nodes_go_on : (root : Data) (found : List (Option Data)) (items : List Item)
    → (more : List (Option Data)) × (nodes_from root found items ≡ found ++ more)
nodes_go_on root found [] = ([], sym (append-nil found))
nodes_go_on root found (item ∷ items) =
    let node = node_of root found item in
    let (more, is) = nodes_go_on root (found ++ node ∷ []) items in
    (node ∷ more, is ∙ append_assoc found (node ∷ []) more)

-- a node is that of its item, given those before it
record IsNodeAt (root : Data) (nodes : List (Option Data)) (index : ℕ) (item : Item) : Type 0 where
  before : List (Option Data)
  after : List (Option Data)
  whole : nodes ≡ before ++ node_of root before item ∷ after
  size : length before ≡ index

node_at : (root : Data) (found : List (Option Data)) (items : List Item) (k : ℕ) (item : Item) → slice_get items k ≡ Some item
    → IsNodeAt root (nodes_from root found items) (length found + k) item
node_at root found [] k item here = absurd (none-some item here)
node_at root found (x ∷ items) zero item here =
    let node = node_of root found x in
    let (more, is) = nodes_go_on root (found ++ node ∷ []) items in
    let same : x ≡ item = same_Some x item here in
    record {
      before = found;
      after = more;
      whole = is ∙ append_assoc found (node ∷ []) more ∙ ap (λ i. found ++ node_of root found i ∷ more) same;
      size = omega arith;
    }
node_at root found (x ∷ items) (suc k) item here =
    let node = node_of root found x in
    let is = node_at root (found ++ node ∷ []) items k item here in
    record {
      before = is.before;
      after = is.after;
      whole = is.whole;
      size = omega (arith, is.size, length_push found node);
    }

at_seam : {X : Type 0} (before : List X) (x : X) (after : List X) (k : ℕ) → length before ≡ k → slice_get (before ++ x ∷ after) k ≡ Some x
at_seam [] x after zero is = refl
at_seam [] x after (suc k) is = absurd (omega (arith, is))
at_seam (y ∷ before) x after zero is = absurd (omega (arith, is))
at_seam (y ∷ before) x after (suc k) is = at_seam before x after k (omega (arith, is))

in_front : {X : Type 0} (before after : List X) (k : ℕ) (x : X) → slice_get before k ≡ Some x → slice_get (before ++ after) k ≡ Some x
in_front [] after k x here = absurd (none-some x here)
in_front (y ∷ before) after zero x here = here
in_front (y ∷ before) after (suc k) x here = in_front before after k x here

pub of_joined : (o : Option (Option Data)) (b : Data) → joined o ≡ Some b → o ≡ Some (Some b)
of_joined None b is = absurd (none-some b is)
of_joined (Some o) b is = ap Some is

base_in_front : (root : Data) (before after : List (Option Data)) (parent : Option ℕ) (b : Data) → base_of root before parent ≡ Some b
    → base_of root (before ++ after) parent ≡ Some b
base_in_front root before after None b is = is
base_in_front root before after (Some p) b is =
    let here : slice_get (before ++ after) p ≡ Some (Some b) = in_front before after p (Some b) (of_joined (slice_get before p) b is) in
    ap joined here

-- an item goes on by its inner steps
enters : (r : Role) (steps : List PathStep) (node next : Data) → inner_steps r ≡ Some steps → enter r node ≡ Some next → behind steps node ≡ Some next
enters (role.Key None kind element) steps node next inner is = absurd (none-some steps inner)
enters (role.Key (Some name) kind None) steps node next inner is =
    subst (λ s. behind s node ≡ Some next) (same_Some _ steps inner) (rw is refl)
enters (role.Key (Some name) kind (Some i)) steps node next inner is =
    subst (λ s. behind s node ≡ Some next) (same_Some _ steps inner) (on (get (string_bytes name) node) is)
  where
    on : (list : Option Data) → element_of i list ≡ Some next → option_and_then (behind (position i ∷ [])) list ≡ Some next
    on None e = absurd (none-some next e)
    on (Some list) e = rw e refl
enters (role.Value None container) steps node next inner is =
    subst (λ s. behind s node ≡ Some next) (same_Some _ steps inner) is
enters (role.Value (Some i) container) steps node next inner is =
    subst (λ s. behind s node ≡ Some next) (same_Some _ steps inner) (rw is refl)

leads_down : (root : Data) (items : List Item) (parent : Option ℕ) (path : List PathStep) (b : Data) → LeadsTo items parent path
    → base_of root (nodes_of root items) parent ≡ Some b → behind path root ≡ Some b
leads_down root items _ _ b at_root is = is
leads_down root items _ _ b (through {path} i item steps here leads inner) is =
    let at = node_at root [] items i item here in
    let found : slice_get (nodes_of root items) i ≡ Some (Some b) = of_joined (slice_get (nodes_of root items) i) b is in
    let size : length at.before ≡ i = omega (arith, at.size) in
    let own : slice_get (nodes_of root items) i ≡ Some (node_of root at.before item) =
    ap (λ ns. slice_get ns i) at.whole ∙ at_seam at.before (node_of root at.before item) at.after i size in
    let node : node_of root at.before item ≡ Some b = same_Some _ _ (sym own ∙ found) in
    let (base, base_is, enter_is) = bind_some (base_of root at.before item.parent) (enter item.role) b node in
    let base_there : base_of root (nodes_of root items) item.parent ≡ Some base =
    ap (λ ns. base_of root ns item.parent) at.whole ∙ base_in_front root at.before (node_of root at.before item ∷ at.after) item.parent base base_is in
    behind_append path steps root base (leads_down root items item.parent path base leads base_there)
    ∙ enters item.role steps base b inner enter_is

inner_of : (r : Role) (steps : List PathStep) → is_key r ≡ false → own_steps r ≡ Some steps → inner_steps r ≡ Some steps
inner_of (role.Key name kind element) steps sort is = absurd (cc)
inner_of (role.Value None container) steps sort is = is
inner_of (role.Value (Some i) container) steps sort is = is

-- a value that is at a path leads to what is there
pub stands : (root : Data) (items : List Item) (i : ℕ) (item : Item) (path : List Step) (node : Data) → slice_get items i ≡ Some item
    → is_key item.role ≡ false → IsAtPath items item (map path_step path) → slice_get (nodes_of root items) i ≡ Some (Some node)
    → data_at path root ≡ Some node
stands root items i item path node here sort is leads =
    let inner : inner_steps item.role ≡ Some is.steps = elim is.ends [ inl own ↦ inner_of item.role is.steps sort own | inr inner ↦ inner ] in
    let way : LeadsTo items (Some i) (is.base ++ is.steps) = through i item is.steps here is.leads inner in
    same_behind path root ∙ ap (λ p. behind p root) is.whole ∙ leads_down root items (Some i) (is.base ++ is.steps) node way (ap joined leads)
