use Rattle.std.proofs.Common.{subst}
use Rattle.std.specs.List.{AllZip}
use Rattle.rinqebo_changes.specs.Keyed.{AreBeside, IsAbsentFor}
use Rattle.rinqebo_changes.proofs.KeyedRows.{aligned_all}
use Rattle.rinqebo_changes.proofs.keyed.align.Goals as goal

pub returns : goal.returns
returns c =
    let from = c.args.from.items in
    let to = c.args.to.items in
    let right = c.in_ok-right.right.items in
    let rest = c.beside.new.rest.items in
    let made = c.in_ok-made.made.items in
    aligned_all from to right rest made c.append.new.self.items c.append-2.new.self.items
    (subst (λ xs. AreBeside to xs right rest) c.deref.ensures.value c.in_ok-right.ensures)
    (subst (λ xs. AllZip IsAbsentFor xs made) c.deref-2.ensures.value c.in_ok-made.ensures)
    c.in_ok-append.ensures.items c.in_ok-append-2.ensures.items
