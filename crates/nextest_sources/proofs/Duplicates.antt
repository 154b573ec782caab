-- The files of tools: the first argument that has an earlier one of its tool.
use Rattle.std.proofs.Common.{◌≡◌, ℕ, List, [], ◌∷◌, ◌++◌, Bool, true, false, cond, Option, Some, None, option_map, refl, sym, ap, subst, append_assoc, append-nil, ◌∙◌}
use Rattle.std.specs.List.{find}
use Rattle.std.specs.Option.{option_or}
use Rattle.std.specs.Str.{bytes_eq}
use Rattle.std.proofs.lemmas.Slice.Eq.{bytes_eq-Decides}
use Rattle.nextest_sources.specs.InputFaults.{Each, HaveOneFileEach, IsFirstDuplicate, fault_at_source, second_cause, tool_steps}
use Rattle.nextest_sources.specs.Causes.{LoadCause, LoadFault, duplicate_tool, at_source}
use Rattle.nextest_sources.specs.Inputs.{tool_source}
use Rattle.nextest_sources.specs.Sources.{Source, ToolFile}
use Rattle.nextest_sources.specs.Steps.{LoadStep, check, first_fault}

-- the first file of some that has an earlier one of its tool, and its fault
abbrev pub duplicate_fault : (before : List ToolFile) → List ToolFile → Option LoadFault
duplicate_fault before [] = None
duplicate_fault before (t ∷ files) =
    option_or (fault_at_source (tool_source t) (second_cause before t)) (duplicate_fault (before ++ t ∷ []) files)

fault_first : (source : Source) (cause : Option LoadCause) (steps : List LoadStep) (rest : Option LoadFault)
    → first_fault steps ≡ rest
    → first_fault (check source cause ∷ steps) ≡ option_or (fault_at_source source cause) rest
fault_first source None steps rest h = h
fault_first source (Some cause) steps rest h = refl

-- it is the first fault of the steps of tools' files
pub tools_fault : (before tools : List ToolFile) → first_fault (tool_steps before tools) ≡ duplicate_fault before tools
tools_fault before [] = refl
tools_fault before (t ∷ tools) =
    fault_first (tool_source t) (second_cause before t) (tool_steps (before ++ t ∷ []) tools)
    (duplicate_fault (before ++ t ∷ []) tools) (tools_fault (before ++ t ∷ []) tools)

each_at : {X : Type 0} (P : X → Type 0) (below : List X) (x : X) (above : List X) → Each P (below ++ x ∷ above) → P x
each_at P [] x above h = h.0
each_at P (b ∷ below) x above h = each_at P below x above h.1

each_more : {X : Type 0} (P : X → Type 0) (xs : List X) (x : X) → Each P xs → P x → Each P (xs ++ x ∷ [])
each_more P [] x h p = (p, tt)
each_more P (y ∷ ys) x h p = (h.0, each_more P ys x h.1 p)

none_twice : HaveOneFileEach []
none_twice [] between after t u e same = cc
none_twice (b ∷ before) between after t u e same = cc

fewer : (y : ToolFile) (ys : List ToolFile) → HaveOneFileEach (y ∷ ys) → HaveOneFileEach ys
fewer y ys h before between after t u e same = h (y ∷ before) between after t u (ap (λ ts. y ∷ ts) e) same

-- where no tool has two files, those after one are of other tools
others : (y : ToolFile) (done ys : List ToolFile) → HaveOneFileEach (y ∷ done ++ ys)
    → Each (λ u. y.tool ≡ u.tool → ⊥) ys
others y done [] h = tt
others y done (u ∷ ys) h = (
  λ same. h [] done ys y u refl same,
  others y (done ++ u ∷ []) ys
      (subst (λ ts. HaveOneFileEach (y ∷ ts)) (sym (append_assoc done (u ∷ []) ys)) h),
)

-- one more file, of another tool
one_more : (xs : List ToolFile) (t : ToolFile) → HaveOneFileEach xs → Each (λ x. x.tool ≡ t.tool → ⊥) xs
    → HaveOneFileEach (xs ++ t ∷ [])
one_more [] t h other [] [] after x u e same = cc
one_more [] t h other [] (m ∷ between) after x u e same = cc
one_more [] t h other (b ∷ []) between after x u e same = cc
one_more [] t h other (b ∷ c ∷ before) between after x u e same = cc
one_more (y ∷ ys) t h other [] between after x u e same =
    let first : y ≡ x = cc in
    let rest : ys ++ t ∷ [] ≡ between ++ u ∷ after = cc in
    let apart = each_more (λ z. y.tool ≡ z.tool → ⊥) ys t (others y [] ys h) other.0 in
    each_at (λ z. y.tool ≡ z.tool → ⊥) between u after
    (subst (λ zs. Each (λ z. y.tool ≡ z.tool → ⊥) zs) rest apart) (ap (λ z. z.tool) first ∙ same)
one_more (y ∷ ys) t h other (b ∷ before) between after x u e same =
    let rest : ys ++ t ∷ [] ≡ before ++ x ∷ between ++ u ∷ after = cc in
    one_more ys t (fewer y ys h) other.1 before between after x u rest same

-- a file is the first of its tool among some
record FirstOf (tool : List ℕ) (ts : List ToolFile) (f : ToolFile) : Type 0 where
  before : List ToolFile
  after : List ToolFile
  splits : ts ≡ before ++ f ∷ after
  same : f.tool ≡ tool
  earliest : Each (λ t. t.tool ≡ tool → ⊥) before

found_step : (tool : List ℕ) (t : ToolFile) (ts : List ToolFile) (f : ToolFile) (b : Bool)
    → bytes_eq t.tool tool ≡ b → cond b (Some t) (find (λ x. bytes_eq x.tool tool) ts) ≡ Some f
    → (find (λ x. bytes_eq x.tool tool) ts ≡ Some f → FirstOf tool ts f) → FirstOf tool (t ∷ ts) f
found_step tool t ts f true is h next =
    let e : t ≡ f = cc in
    record {
      before = [];
      after = ts;
      splits = ap (λ x. x ∷ ts) e;
      same =
          ap (λ x. x.tool) (sym e) ∙ (bytes_eq-Decides t.tool tool).0 is;
      earliest = tt;
    }
found_step tool t ts f false is h next =
    let r = next h in
    record {
      before = t ∷ r.before;
      after = r.after;
      splits = ap (λ xs. t ∷ xs) r.splits;
      same =
          r.same;
      earliest = (λ e. let b = (bytes_eq-Decides t.tool tool).1 e in cc, r.earliest);
    }

found_at : (tool : List ℕ) (ts : List ToolFile) (f : ToolFile) → find (λ x. bytes_eq x.tool tool) ts ≡ Some f
    → FirstOf tool ts f
found_at tool [] f h = cc
found_at tool (t ∷ ts) f h = found_step tool t ts f (bytes_eq t.tool tool) refl h (found_at tool ts f)

none_step : (tool : List ℕ) (t : ToolFile) (ts : List ToolFile) (b : Bool) → bytes_eq t.tool tool ≡ b
    → cond b (Some t) (find (λ x. bytes_eq x.tool tool) ts) ≡ None
    → (find (λ x. bytes_eq x.tool tool) ts ≡ None → Each (λ x. x.tool ≡ tool → ⊥) ts)
    → Each (λ x. x.tool ≡ tool → ⊥) (t ∷ ts)
none_step tool t ts true is h next = cc
none_step tool t ts false is h next = (λ e. let b = (bytes_eq-Decides t.tool tool).1 e in cc, next h)

-- where none is found, all are of other tools
none_at : (tool : List ℕ) (ts : List ToolFile) → find (λ x. bytes_eq x.tool tool) ts ≡ None
    → Each (λ x. x.tool ≡ tool → ⊥) ts
none_at tool [] h = tt
none_at tool (t ∷ ts) h = none_step tool t ts (bytes_eq t.tool tool) refl h (none_at tool ts)

-- the fault of a file whose tool has this earlier one, or of a later file
abbrev fault_at : ToolFile → Option ToolFile → Option LoadFault → Option LoadFault
fault_at t earlier later =
    option_or (option_map (at_source (tool_source t))
    (option_map (duplicate_tool t.tool) (option_map (λ x. x.file.path) earlier))) later

some_at : (before : List ToolFile) (t : ToolFile) (ts : List ToolFile) (fault : LoadFault)
    → HaveOneFileEach before → (o : Option ToolFile) → find (λ x. bytes_eq x.tool t.tool) before ≡ o
    → fault_at t o (duplicate_fault (before ++ t ∷ []) ts) ≡ Some fault
    → (HaveOneFileEach (before ++ t ∷ []) → duplicate_fault (before ++ t ∷ []) ts ≡ Some fault
    → IsFirstDuplicate ((before ++ t ∷ []) ++ ts) fault) → IsFirstDuplicate (before ++ t ∷ ts) fault
some_at before t ts fault one (Some f) is h next =
    let first = found_at t.tool before f is in
    let tells : at_source (tool_source t) (duplicate_tool t.tool f.file.path) ≡ fault = cc in
    record {
      before = first.before;
      first = f;
      between = first.after;
      second = t;
      after = ts;
      splits = ap (λ xs. xs ++ t ∷ ts) first.splits;
      same = first.same;
      earliest = first.earliest;
      least = subst (λ xs. HaveOneFileEach xs) first.splits one;
      tells = sym tells;
    }
some_at before t ts fault one None is h next =
    subst (λ xs. IsFirstDuplicate xs fault) (append_assoc before (t ∷ []) ts)
    (next (one_more before t one (none_at t.tool before is)) h)

some_after : (before ts : List ToolFile) (fault : LoadFault) → HaveOneFileEach before
    → duplicate_fault before ts ≡ Some fault → IsFirstDuplicate (before ++ ts) fault
some_after before [] fault one h = cc
some_after before (t ∷ ts) fault one h =
    some_at before t ts fault one (find (λ x. bytes_eq x.tool t.tool) before) refl h
    (some_after (before ++ t ∷ []) ts fault)

none_more : (before : List ToolFile) (t : ToolFile) (ts : List ToolFile) → HaveOneFileEach before
    → (o : Option ToolFile) → find (λ x. bytes_eq x.tool t.tool) before ≡ o
    → fault_at t o (duplicate_fault (before ++ t ∷ []) ts) ≡ None
    → (HaveOneFileEach (before ++ t ∷ []) → duplicate_fault (before ++ t ∷ []) ts ≡ None
    → HaveOneFileEach ((before ++ t ∷ []) ++ ts)) → HaveOneFileEach (before ++ t ∷ ts)
none_more before t ts one (Some f) is h next = cc
none_more before t ts one None is h next =
    subst (λ xs. HaveOneFileEach xs) (append_assoc before (t ∷ []) ts)
    (next (one_more before t one (none_at t.tool before is)) h)

none_after : (before ts : List ToolFile) → HaveOneFileEach before → duplicate_fault before ts ≡ None
    → HaveOneFileEach (before ++ ts)
none_after before [] one h = subst (λ xs. HaveOneFileEach xs) (sym (append-nil before)) one
none_after before (t ∷ ts) one h =
    none_more before t ts one (find (λ x. bytes_eq x.tool t.tool) before) refl h (none_after (before ++ t ∷ []) ts)

-- the fault that is reported is that of the first duplicate
pub first_duplicate : (ts : List ToolFile) (fault : LoadFault) → first_fault (tool_steps [] ts) ≡ Some fault
    → IsFirstDuplicate ts fault
first_duplicate ts fault h = some_after [] ts fault none_twice (sym (tools_fault [] ts) ∙ h)

-- none is reported exactly if no tool has two files
pub duplicates_from : (ts : List ToolFile) → first_fault (tool_steps [] ts) ≡ None → HaveOneFileEach ts
duplicates_from ts h = none_after [] ts none_twice (sym (tools_fault [] ts) ∙ h)

absent : (ts : List ToolFile) → HaveOneFileEach ts → (o : Option LoadFault)
    → first_fault (tool_steps [] ts) ≡ o → o ≡ None
absent ts one None is = refl
absent ts one (Some fault) is =
    let d = first_duplicate ts fault is in
    absurd (one d.before d.between d.after d.first d.second d.splits d.same)

pub duplicates_to : (ts : List ToolFile) → HaveOneFileEach ts → first_fault (tool_steps [] ts) ≡ None
duplicates_to ts one = absent ts one (first_fault (tool_steps [] ts)) refl

apart : (p q : List ℕ) (b : Bool) → bytes_eq p q ≡ b → (p ≡ q → ⊥) → b ≡ false
apart p q true is h = absurd (h ((bytes_eq-Decides p q).0 is))
apart p q false is h = refl

is_found : (tool : List ℕ) (before : List ToolFile) (f : ToolFile) (after : List ToolFile)
    → Each (λ t. t.tool ≡ tool → ⊥) before → f.tool ≡ tool
    → find (λ x. bytes_eq x.tool tool) (before ++ f ∷ after) ≡ Some f
is_found tool [] f after e same = rw ((bytes_eq-Decides f.tool tool).1 same) refl
is_found tool (b ∷ before) f after e same =
    rw (apart b.tool tool (bytes_eq b.tool tool) refl e.0) (is_found tool before f after e.1 same)

not_there : (done : List ToolFile) (x : ToolFile) (xs : List ToolFile) → HaveOneFileEach (done ++ x ∷ xs)
    → (o : Option ToolFile) → find (λ t. bytes_eq t.tool x.tool) done ≡ o → o ≡ None
not_there done x xs one None is = refl
not_there done x xs one (Some f) is =
    let first = found_at x.tool done f is in
    absurd (one first.before first.after xs f x (ap (λ zs. zs ++ x ∷ xs) first.splits) first.same)

-- where no tool has two files, none of them is refused
passed_over : (done xs ys : List ToolFile) → HaveOneFileEach (done ++ xs)
    → duplicate_fault done (xs ++ ys) ≡ duplicate_fault (done ++ xs) ys
passed_over done [] ys one = ap (λ d. duplicate_fault d ys) (sym (append-nil done))
passed_over done (x ∷ xs) ys one =
    ap (λ o. fault_at x o (duplicate_fault (done ++ x ∷ []) (xs ++ ys)))
    (not_there done x xs one (find (λ t. bytes_eq t.tool x.tool) done) refl)
    ∙ passed_over (done ++ x ∷ []) xs ys (subst (λ zs. HaveOneFileEach zs) (sym (append_assoc done (x ∷ []) xs)) one)
    ∙ ap (λ d. duplicate_fault d ys) (append_assoc done (x ∷ []) xs)

-- the first duplicate is what is reported
pub duplicate_is : (ts : List ToolFile) (fault : LoadFault) → IsFirstDuplicate ts fault
    → first_fault (tool_steps [] ts) ≡ Some fault
duplicate_is ts fault d =
    let before = d.before ++ d.first ∷ d.between in
    tools_fault [] ts
    ∙ ap (duplicate_fault []) d.splits
    ∙ passed_over [] before (d.second ∷ d.after) d.least
    ∙ ap (λ o. fault_at d.second o (duplicate_fault (before ++ d.second ∷ []) d.after))
    (is_found d.second.tool d.before d.first d.between d.earliest d.same)
    ∙ ap (λ f. Some f) (sym d.tells)
