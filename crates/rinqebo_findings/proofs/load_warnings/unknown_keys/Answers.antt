use Rattle.std.proofs.Common.{ℕ, List, string_bytes, arith}
use Rattle.rinqebo_findings.specs.Warnings.{WarnsOfKey}
use Rattle.rinqebo_findings.proofs.Each.{of_all, of_next}
use Rattle.rinqebo_findings.proofs.load_warnings.unknown_keys.Goals as goal

pub loop-path-preserved : goal.loop-path-preserved
loop-path-preserved c =
    let source = c.args.source in
    of_next (λ (key : List ℕ). WarnsOfKey source.layers.now source.position) string_bytes c.args.paths.now
    c.loop-path.path-index c.path-item.result c.loop-path.findings.items c.push.new.self.items
    c.in_ok-unknown_key.field-0 c.loop-path-test.true c.path-item.is c.in_ok-push.ensures.items
    c.in_ok-unknown_key.ensures c.loop-path.invariant

pub returns : goal.returns
returns c =
    let source = c.args.source in
    of_all (λ (key : List ℕ). WarnsOfKey source.layers.now source.position) string_bytes c.args.paths.now
    c.loop-path.path-index c.loop-path.findings.items (omega arith) c.loop-path.invariant
