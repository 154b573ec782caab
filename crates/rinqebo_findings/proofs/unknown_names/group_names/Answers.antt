use Rattle.std.proofs.Common.{◌≡◌, ◌∷◌, [], ◌++◌, ◌∙◌, ap, codes, List, ℕ, map, string_bytes, sym, true, false}
use Rattle.std.specs.Borrow.{Bor}
use Rattle.std.proofs.lemmas.List.{map-append}
use Rattle.nextest_tree.specs.Schema.{is_one_of}
use Rattle.rinqebo_faults.specs.Hints.{texts}
use Rattle.rinqebo_findings.proofs.SameWords.{has_global, lacks_global}
use Rattle.rinqebo_findings.proofs.unknown_names.group_names.Goals as goal

pub returns-then-is_among : goal.returns-then-is_among
returns-then-is_among c =
    let known = map string_bytes c.args.known.now.keys in
    let names : texts c.deref.result.now ≡ known = ap texts c.deref.ensures.value ∙ c.in_ok-names.ensures in
    let is : is_one_of known (codes "@global") ≡ true =
    ap (λ (ns : List (List ℕ)). is_one_of ns (codes "@global")) (sym names) ∙ sym c.is_among.ensures
    ∙ c.if-is_among.true in
    c.in_ok-names.ensures ∙ has_global known is

pub returns : goal.returns
returns c =
    let known = map string_bytes c.args.known.now.keys in
    let names : texts c.deref.result.now ≡ known = ap texts c.deref.ensures.value ∙ c.in_ok-names.ensures in
    let is : is_one_of known (codes "@global") ≡ false =
    ap (λ (ns : List (List ℕ)). is_one_of ns (codes "@global")) (sym names) ∙ sym c.is_among.ensures
    ∙ c.if-is_among.false in
    ap texts c.in_ok-push.ensures.items ∙ map-append (λ (word : Bor (List ℕ)). word.now) c.in_ok-names.names.items _
    ∙ ap (λ (ns : List (List ℕ)). ns ++ codes "@global" ∷ []) c.in_ok-names.ensures
    ∙ lacks_global known is
