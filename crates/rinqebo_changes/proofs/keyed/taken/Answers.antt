use Rattle.std.proofs.Common.{◌≡◌, false, inl, inr, refl, subst}
use Rattle.std.proofs.lemmas.Result.{IfOk-weaker}
use Rattle.rinqebo_changes.specs.Keyed.{has_key, IsAbsent, IsTaken}
use Rattle.rinqebo_changes.proofs.KeyedRows.{found_at}
use Rattle.rinqebo_changes.proofs.keyed.taken.Goals as goal

pub returns-in-Some : goal.returns-in-Some
returns-in-Some c =
    inl (found_at c.args.key.now c.as_slice.result.now c.args.rows.now.items c.in-Some.place c.remove.result
    c.remove.new.self.items c.as_slice.ensures.value c.in-Some.ensures c.remove.ensures.value c.remove.ensures.items)

pub returns-in-None : goal.returns-in-None
returns-in-None c =
    let key = c.args.key.now in
    let rows = c.args.rows.now.items in
    IfOk-weaker c.absent.result (IsAbsent key) (λ row. IsTaken key rows row rows)
    (λ row is. inr (record {
      same = refl;
      none = subst (λ xs. has_key xs key ≡ false) c.as_slice.ensures.value c.in-None.ensures;
      absent = is;
    })) c.absent.ensures
