use Rattle.filter_inputs.specs.Packages.Edges.{itself, onward}
use Rattle.filter_inputs.proofs.packages.Reaching.{reaches_through, reaches_turned, turned_reaches}
use Rattle.filter_inputs.proofs.packages.laws.law_reaching.Goals as goal

pub returns : goal.returns
returns c = record {
  itself = λ edges a. itself a;
  next = λ edges a b d. onward a b b d (itself b);
  through = λ edges a b c r q. reaches_through r q;
  turned = λ edges a b. (reaches_turned edges, turned_reaches edges);
}
