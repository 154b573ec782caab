-- What is left out for the faults of values.
use Rattle.std.proofs.Common.{◌≡◌, ◌<◌, ◌≤◌, ℕ, suc, List, [], ◌∷◌, ◌++◌, ◌+◌, add-one, length, map, drop, take, get_or, refl, sym, ap, ◌∙◌, subst, arith}
use Rattle.std.proofs.Math.Seq.{drop-cons}
use Rattle.std.proofs.lemmas.List.{length-take, take_all, take_more}
use Rattle.std.proofs.lemmas.List.Sums.{fold-append}
use Rattle.std.specs.List.{All, flat_map}
use Rattle.nextest_documents.specs.Merge.{over}
use Rattle.nextest_shape.specs.Faults.Found.{Adds}
use Rattle.nextest_shape.specs.declared.faults.found.FoundFault.{FoundFault}
use Rattle.nextest_tables.specs.Defaults.{defaults}
use Rattle.nextest_tables.specs.Tables.{a_file}
use Rattle.nextest_tree.specs.Node.{Node}
use Rattle.nextest_tree.specs.Schema as schema
use Rattle.rinqebo_faults.specs.Edits.{Edit, EditsView, with_edit, with_edits}
use Rattle.rinqebo_request.specs.declared.files.layers.Layer.{Layer}
use Rattle.rinqebo_checks.specs.declared.value_faults.ValueFault.{ValueFault}
use Rattle.rinqebo_checks.specs.Faults.{HasStray, LeavesOutDocument, LeavesOutFiles, LeavesOutValues, document_in, fault_edits}

-- edits, and then some more
pub two_edits : (old one two : EditsView) (a b : List Edit) → one ≡ with_edits old a → two ≡ with_edits one b
    → two ≡ with_edits old (a ++ b)
two_edits old one two a b first second =
    second ∙ ap (λ v. with_edits v b) first ∙ sym (fold-append with_edit old a b)

-- the edits for one more fault
pub next_fault : (place : ℕ) (start now next : EditsView) (faults : List ValueFault) (index : ℕ) (fault : ValueFault)
    → index < length faults → fault ≡ get_or faults index fault → next ≡ with_edits now (fault_edits place fault)
    → with_edits now (flat_map (fault_edits place) (drop index faults))
    ≡ with_edits start (flat_map (fault_edits place) faults)
    → with_edits next (flat_map (fault_edits place) (drop (index + 1) faults))
    ≡ with_edits start (flat_map (fault_edits place) faults)
next_fault place start now next faults index fault within is next_is so_far =
    let rest = flat_map (fault_edits place) (drop (index + 1) faults) in
    let first : drop index faults ≡ fault ∷ drop (index + 1) faults =
    drop-cons faults index fault within ∙ ap (λ f. f ∷ drop (suc index) faults) (sym is)
    ∙ ap (λ k. fault ∷ drop k faults) (sym (add-one index)) in
    ap (λ v. with_edits v rest) next_is ∙ sym (fold-append with_edit now (fault_edits place fault) rest)
    ∙ sym (ap (λ fs. with_edits now (flat_map (fault_edits place) fs)) first) ∙ so_far

-- what is left out of a document over the defaults
pub left_out_values : (place : ℕ) (document laid : Node) (found : List FoundFault) (made given : List ValueFault)
    (old new : EditsView) → laid ≡ over document defaults → Adds [] found (schema.faults a_file [] laid)
    → map (λ f. f.fault) made ≡ found → All (HasStray laid) made → given ≡ made
    → new ≡ with_edits old (flat_map (fault_edits place) given) → LeavesOutValues place document old new
left_out_values place document laid found made given old new laid_is are_all same strays same_made edits_are =
    record {
      found = given;
      are_all = subst (λ fs. Adds [] fs (schema.faults a_file [] (over document defaults)))
          (sym (ap (map (λ f. f.fault)) same_made ∙ same))
          (subst (λ node. Adds [] found (schema.faults a_file [] node)) laid_is are_all);
      have_strays = subst (All (HasStray (over document defaults))) (sym same_made)
          (subst (λ node. All (HasStray node) made) laid_is strays);
      edits = edits_are;
    }

-- what is left out of files, and of one more
with_file : (place : ℕ) (layers : List Layer) (old now new : EditsView) (layer : Layer)
    → LeavesOutFiles place layers old now → LeavesOutDocument (place + length layers) (document_in layer) now new
    → LeavesOutFiles place (layers ++ layer ∷ []) old new
with_file place [] old now new layer before own = (
  new,
  subst (λ v. LeavesOutDocument place (document_in layer) v new) before
      (subst (λ n. LeavesOutDocument n (document_in layer) now new) (omega arith) own),
  refl,
)
with_file place (l ∷ ls) old now new layer before own = (
  before.0,
  before.1,
  with_file (place + 1) ls before.0 now new layer before.2
      (subst (λ n. LeavesOutDocument n (document_in layer) now new) (omega arith) own),
)

-- what is left out of the files up to one, and of this one
pub with_next_file : (layers : List Layer) (place : ℕ) (layer : Layer) (old now new : EditsView)
    → place < length layers → layer ≡ get_or layers place layer → LeavesOutFiles 0 (take place layers) old now
    → LeavesOutDocument place (document_in layer) now new → LeavesOutFiles 0 (take (place + 1) layers) old new
with_next_file layers place layer old now new within is before own =
    let more : take (place + 1) layers ≡ take place layers ++ layer ∷ [] =
    take_more layers place layer within ∙ ap (λ l. take place layers ++ l ∷ []) (sym is) in
    let at : place ≡ 0 + length (take place layers) = omega (arith, length-take place layers) in
    subst (λ ls. LeavesOutFiles 0 ls old new) (sym more)
    (with_file 0 (take place layers) old now new layer before
    (subst (λ n. LeavesOutDocument n (document_in layer) now new) at own))

-- what is left out of all files
pub with_all_files : (layers : List Layer) (place : ℕ) (old now : EditsView) → length layers ≤ place
    → LeavesOutFiles 0 (take place layers) old now → LeavesOutFiles 0 layers old now
with_all_files layers place old now no_more left_out =
    subst (λ ls. LeavesOutFiles 0 ls old now) (take_all place layers no_more) left_out
