use Rattle.std.proofs.Common.{◌≡◌, ◌∙◌, ap, drop, ltb, rules, slice_get}
use Rattle.std.proofs.lemmas.List.Sorted.{IsPartitionPoint-from_clause}
use Rattle.nextest_places.specs.Branches.{numbers_where}
use Rattle.nextest_places.proofs.Numbers.{counted, item_is, parted}
use Rattle.nextest_places.proofs.entries.number_from.Goals as goal

pub returns : goal.returns
returns c = λ test entries are.
    let numbers = c.args.numbers.now in
    let from = c.args.from in
    let at = c.partition_point-first.result in
    let point = IsPartitionPoint-from_clause (λ y. ltb y from) numbers at c.partition_point-first.ensures.partitioned
    (parted test numbers entries from are) (λ a r f' k. search rules) in
    let left : drop at numbers ≡ numbers_where test from (drop from entries) =
    counted test numbers entries at from are c.partition_point-first.ensures.bound point in
    c.copied.ensures ∙ item_is c.split_at.result.1.now c.args.place c.get.result c.get.ensures.lookup
    ∙ ap (λ ns. slice_get ns c.args.place) (c.split_at.ensures.back ∙ left)
