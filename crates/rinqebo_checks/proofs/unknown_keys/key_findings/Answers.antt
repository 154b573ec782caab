use Rattle.std.proofs.Common.{subst, arith}
use Rattle.rinqebo_checks.specs.Faults.{IsInPlace, IsKeyFinding}
use Rattle.rinqebo_checks.proofs.Reporting.{next_joined, next_own, up_to_end}
use Rattle.rinqebo_checks.proofs.unknown_keys.key_findings.Goals as goal

pub loop-key-preserved-then-joined : goal.loop-key-preserved-then-joined
loop-key-preserved-then-joined c =
    let faults = c.args.faults.now in
    next_joined (λ key. IsKeyFinding c.args.session.now.layers.items c.args.source key.path.items)
    (λ key. IsInPlace faults key.path.items) c.args.keys.now c.loop-key.key-index c.key-item.result
    c.loop-key.findings.items c.loop-key-test.true c.key-item.is
    (subst (IsInPlace faults) c.deref.ensures.value (c.in_ok-joined.ensures c.if-joined.true)) c.loop-key.invariant

pub loop-key-preserved : goal.loop-key-preserved
loop-key-preserved c =
    let faults = c.args.faults.now in
    next_own (λ key. IsKeyFinding c.args.session.now.layers.items c.args.source key.path.items)
    (λ key. IsInPlace faults key.path.items) c.args.keys.now c.loop-key.key-index c.key-item.result
    c.loop-key.findings.items c.push.new.self.items c.in_ok-key_finding.field-0 c.loop-key-test.true c.key-item.is
    c.in_ok-push.ensures.items
    (subst (λ path. IsKeyFinding c.args.session.now.layers.items c.args.source path c.in_ok-key_finding.field-0)
    c.deref-in-loop-key.ensures.value c.in_ok-key_finding.ensures) c.loop-key.invariant

pub returns : goal.returns
returns c =
    up_to_end (λ key. IsKeyFinding c.args.session.now.layers.items c.args.source key.path.items)
    (λ key. IsInPlace c.args.faults.now key.path.items) c.args.keys.now c.loop-key.key-index c.loop-key.findings.items
    (omega arith) c.loop-key.invariant
