-- Facts of results.
use Rattle.std.proofs.Common.{◌≡◌, ◌↔◌, ℕ, List, Option, Some, None, Result, Ok, Err, IfOk, OnOk, MatchOption, Bool, true, false, is_some, sym, ◌∙◌, subst}
use Rattle.std.specs.List.{AllByRecursion}
use Rattle.nextest_tree.specs.Node.{Node}
use Rattle.nextest_documents.specs.Shown.{Path}
use Rattle.nextest_documents.specs.Grounds.{Writes, AreNearestGrounds}
use Rattle.nextest_documents.specs.declared.grounds.Grounds.{Grounds}
use Rattle.nextest_documents.proofs.Lists.{middle}

pub if_ok : {T E : Type 0} (P Q : T → Type 0) (r : Result T E) → ((x : T) → P x → Q x) → IfOk r P → IfOk r Q
if_ok P Q (Ok x) turn h = turn x h
if_ok P Q (Err e) turn h = h

pub on_ok : {T E : Type 0} (P Q : Type 0) (r : Result T E) → (P → Q) → OnOk r P → OnOk r Q
on_ok P Q (Ok x) turn h = turn h
on_ok P Q (Err e) turn h = h

pub if_both : {T E : Type 0} (P Q : T → Type 0) (A : Type 0) (r : Result T E) → ((x : T) → P x → A → Q x) → IfOk r P
    → OnOk r A → IfOk r Q
if_both P Q A (Ok x) turn h a = turn x h a
if_both P Q A (Err e) turn h a = h

-- some profile writes a key exactly if there are grounds
pub overruled : (layers : List Node) (names : List (List ℕ)) (key : Path) (grounds : Option Grounds) (b : Bool)
    → MatchOption grounds (AllByRecursion (λ name. Writes layers key name → ⊥) names)
    (AreNearestGrounds layers names key) → b ≡ is_some grounds
    → (b ≡ false) ↔ AllByRecursion (λ name. Writes layers key name → ⊥) names
overruled layers names key None b none is = (λ e. none, λ all. is)
overruled layers names key (Some g) b near is = (
  λ e. let bad : true ≡ false = sym is ∙ e in cc,
  λ all.
      let P : List ℕ → Type 0 = λ name. Writes layers key name → ⊥ in
      absurd (middle P near.name near.nearer near.farther (subst (AllByRecursion P) near.splits all) near.writes),
)
