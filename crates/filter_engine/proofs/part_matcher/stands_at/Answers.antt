use Rattle.std.proofs.Common.{◌≡◌, ◌+◌, ◌-◌, ◌↔◌, IsTrue, take, drop, length, rules}
use Rattle.filter_engine.proofs.Parts.{standing_at}
use Rattle.filter_engine.proofs.part_matcher.stands_at.Goals as goal

pub returns : goal.returns
returns c =
    let name = c.args.name.now in
    let text = c.args.text.now in
    let part = take (c.args.start + length text - c.args.start) (drop c.args.start name) in
    let equal : IsTrue c.eq.result ↔ (part ≡ text) = search rules in
    let stands = standing_at name text c.args.start c.requires in
    (λ yes. stands.0 (equal.0 yes), λ occurs. equal.1 (stands.1 occurs))
