use Rattle.std.proofs.Common.{◌∙◌, ap, length}
use Rattle.nextest_places.specs.declared.branch.Branch.{Branch}
use Rattle.nextest_places.specs.declared.branch.Branch.TheOpen.{Branch-F}
use Rattle.nextest_places.specs.declared.branch.Branch.TheViews.{out-roll-Branch, roll-Branch}
use Rattle.nextest_places.proofs.Adding.{none_there}
use Rattle.nextest_places.proofs.branch.empty.Goals as goal

pub returns : goal.returns
returns c =
    let made : Branch-F Branch = record {
      all = c.new.result;
      ends = record { pairs = c.new-2.result; elements = c.new-3.result };
      longer = c.new-4.result;
    } in
    let is = out-roll-Branch made in
    none_there (roll-Branch made) (ap (λ f. f.all.items) is ∙ c.new.ensures.items)
    (ap (λ f. f.ends.pairs.items) is ∙ c.new-2.ensures.items)
    (ap (λ f. f.ends.elements.items) is ∙ c.new-3.ensures.items)
    (ap (λ f. length f.longer.entries) is ∙ c.new-4.ensures.len)
