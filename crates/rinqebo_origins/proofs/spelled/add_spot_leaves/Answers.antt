use Rattle.std.proofs.Common.{◌≡◌, ◌++◌, ◌∙◌, ap, append-nil, map, subst, sym}
use Rattle.std.specs.Result.{OnOk}
use Rattle.rinqebo_origins.specs.SpelledLeaves.{leaves_of, spelled_view, spot_view}
use Rattle.rinqebo_origins.proofs.spelled.add_spot_leaves.Goals as goal

pub returns-in-Some : goal.returns-in-Some
returns-in-Some c =
    subst (λ found. OnOk c.add_leaves.result (map spelled_view c.add_leaves.new.leaves.items
    ≡ map spelled_view c.args.leaves.now.items ++ leaves_of (spot_view c.args.spot) found))
    c.in-Some.ensures c.add_leaves.ensures

pub returns-in-None : goal.returns-in-None
returns-in-None c =
    sym (ap (λ found. map spelled_view c.args.leaves.now.items ++ leaves_of (spot_view c.args.spot) found)
    (sym c.in-None.ensures) ∙ append-nil (map spelled_view c.args.leaves.now.items))
