use Rattle.std.proofs.Common.{◌∙◌, ◌++◌, ◌∷◌, [], ap, map, string_bytes, subst, sym}
use Rattle.std.proofs.lemmas.List.{append_assoc, append-nil}
use Rattle.nextest_tree.proofs.Trees.{keys-members}
use Rattle.rinqebo_findings.specs.Profiles.{AreNew}
use Rattle.rinqebo_findings.proofs.parents.add_names.Goals as goal

pub loop-name-init : goal.loop-name-init
loop-name-init c came new =
    record {
      came = came;
      whole = ap (λ names. came ++ names)
          (ap (map string_bytes) (c.into_iter-name-iterator.ensures.into_iter_gives ∙ c.keys-name-items.ensures.rest)
          ∙ sym (keys-members c.args.profiles.now.entries));
      new = new;
    }

pub loop-name-preserved : goal.loop-name-preserved
loop-name-preserved c came new =
    let left = c.loop-name.invariant came new in
    let name = string_bytes c.in-Some.name.now in
    let rest = map string_bytes c.next.new.self in
    record {
      came = left.came ++ name ∷ [];
      whole = append_assoc left.came (name ∷ []) rest
          ∙ ap (λ names. left.came ++ map string_bytes names) (sym c.in-Some.ensures.steps) ∙ left.whole;
      new = subst (λ one. AreNew (left.came ++ one ∷ []) c.add_name.new.seen c.add_name.new.names.items)
          c.as_str.ensures.value (c.in_ok-add_name.ensures left.came left.new);
    }

pub returns : goal.returns
returns c came new =
    let left = c.loop-name.invariant came new in
    subst (λ all. AreNew all c.loop-name.seen c.loop-name.names.items)
    (sym (append-nil left.came) ∙ ap (λ names. left.came ++ map string_bytes names) (sym c.in-None.ensures.steps.0)
    ∙ left.whole) left.new
