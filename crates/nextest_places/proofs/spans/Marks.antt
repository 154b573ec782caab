-- Items that are marked as readable.
use Rattle.std.proofs.Common.{◌≡◌, ◌⊎◌, ℕ, zero, suc, Bool, true, false, List, [], ◌∷◌, ◌++◌, length, inl, inr, map, Option, Some, None, refl, sym, ap, ◌∙◌, subst, arith}
use Rattle.std.specs.Bool.{OnTrue}
use Rattle.std.specs.List.{slice_get}
use Rattle.std.specs.Option.{IfSome}
use Rattle.std.proofs.lemmas.Option.{none-some, same_Some}
use Rattle.toml.specs.Data.{Data}
use Rattle.nextest_places.specs.declared.place.Lines.{Lines}
use Rattle.nextest_places.specs.declared.step.Step.{Step}
use Rattle.nextest_places.specs.Spans.Nodes.{ReadsAs, joined, nodes_of}
use Rattle.nextest_places.specs.declared.spans.item.Item.{Item}
use Rattle.nextest_places.specs.declared.spans.token.Span.{Span}
use Rattle.nextest_places.specs.Spans.Spans.{AreMarked, AreReadable, IsDocumentOf, IsMarkedAt, IsReadable, IsUnmarked, IsValueOf, ReadsAsNode, StandsAt, is_key}
use Rattle.nextest_places.proofs.spans.Leading.{of_joined, stands}

pushed : (xs : List Bool) (x : Bool) (k : ℕ) (b : Bool) → slice_get (xs ++ x ∷ []) k ≡ Some b
    → (slice_get xs k ≡ Some b) ⊎ ((k ≡ length xs) × (b ≡ x))
pushed [] x zero b h = inr (refl, sym (same_Some x b h))
pushed [] x (suc k) b h = absurd (none-some b h)
pushed (y ∷ xs) x zero b h = inl h
pushed (y ∷ xs) x (suc k) b h =
    elim (pushed xs x k b h) [
      | inl e ↦ inl e
      | inr e ↦ inr (ap suc e.0, e.1)
    ]

on_true : (b : Bool) (P : Type 0) → OnTrue b P → b ≡ true → P
on_true true P holds is = holds
on_true false P holds is = absurd (cc)

-- one more item is marked, or is not
pub mark : (text : List ℕ) (items : List Item) (nodes : List (Option Data)) (marks : List Bool) (reads : Bool) (k : ℕ) (item : Item)
    → AreMarked text items nodes marks → length marks ≡ k → slice_get items k ≡ Some item
    → OnTrue reads (ReadsAsNode text item (joined (slice_get nodes k))) → AreMarked text items nodes (marks ++ reads ∷ [])
mark text items nodes marks reads k item are size here now i other marked there =
    elim (pushed marks reads i true marked) [
      | inl old ↦ are i other old there
      | inr last ↦
          let at : i ≡ k = last.0 ∙ size in
          let same : item ≡ other = same_Some item other (sym here ∙ ap (slice_get items) (sym at) ∙ there) in
          let reads_as : ReadsAsNode text item (joined (slice_get nodes k)) = on_true reads _ now (sym last.1) in
          subst (λ it. ReadsAsNode text it (joined (slice_get nodes i))) same
          (subst (λ n. ReadsAsNode text item (joined (slice_get nodes n))) (sym at) reads_as)
    ]

-- what is marked by the nodes of a document is readable
pub readable : (text : List ℕ) (items : List Item) (root : Data) (nodes : List (Option Data)) (marks : List Bool) → IsDocumentOf text root
    → nodes ≡ nodes_of root items → AreMarked text items nodes marks → AreReadable text items marks
readable text items root nodes marks document is are i item marked here =
    let (node, stands, sort, reads) = are i item marked here in
    record {
      root = root;
      node = node;
      is = document;
      leads = sym (ap (λ ns. slice_get ns i) is) ∙ of_joined (slice_get nodes i) node stands;
      sort = sort;
      reads = reads;
    }

-- no item is marked
pub none_readable : IsUnmarked []
none_readable text items i item marked here = absurd (none-some true marked)

-- a marked item at a path is a value that reads as what is there
pub value_of : (text : List ℕ) (items : List Item) (marks : List Bool) (path : List Step) (lines : Lines) (found : Option Span)
    → AreReadable text items marks → IfSome found (IsMarkedAt text items marks path lines)
    → IfSome found (λ span. (node : Data) × StandsAt path text node × IsValueOf text items path lines node span)
value_of text items marks path lines None are is = is
value_of text items marks path lines (Some span) are is =
    let r = are is.index is.item is.marked is.among in (
      r.node,
      record {
        root = r.root;
        is = r.is;
        at = stands r.root items is.index is.item path r.node is.among r.sort is.leads r.leads;
      },
      record {
        item = is.item;
        is = record { index = is.index; among = is.among; leads = is.leads; span_is = is.span_is; on_lines = is.on_lines };
        sort = r.sort;
        reads = r.reads;
      },
    )
