use Rattle.std.proofs.Common.{◌≡◌, drop, map}
use Rattle.rinqebo_request.specs.NamedView.{named_view}
use Rattle.rinqebo_request.specs.Rows.{AreKnownKeys, with_all}
use Rattle.rinqebo_request.proofs.rows.NamedRows.add_all.Given as goal

-- the rows so far, and behind them those of the keys that are left, are those of all keys
abbrev pub invariant-loop-key : goal.invariant-loop-key
invariant-loop-key l =
    let left = map (λ key. key.now) (drop l.key-index l.keys) in
    let all = map (λ key. key.now) l.keys in
    record {
      rows : with_all l.mode (named_view l.self) left ≡ with_all l.mode (named_view l.fn.self) all;
      known : AreKnownKeys l.mode left → AreKnownKeys l.mode all;
    }
