use Rattle.rinqebo_faults.specs.Edits.{names_view, with_name}
use Rattle.rinqebo_faults.proofs.MarkSets.{one_more}
use Rattle.rinqebo_faults.proofs.left_out.Names.add.Goals as goal

pub returns : goal.returns
unfolding names_view with_name
returns c =
    let each = one_more c.args.self.now.names c.insert.new.self c.in_ok-from_str.field-0 _
    c.in_ok-from_str.ensures.ok c.in_ok-insert.ensures.updates in
    λ i. record { any = c.args.self.now.is_any; named = λ other. each other i }
