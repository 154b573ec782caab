use Rattle.nextest_scripts.proofs.Variables.{one_read}
use Rattle.nextest_scripts.proofs.env_map.read_variables.Goals as goal

pub loop-key-preserved-in-Ok : goal.loop-key-preserved-in-Ok
loop-key-preserved-in-Ok c =
    one_read _ _ (c.in-Some.key.now, c.in-Some.tree.now) _ _ _ c.in_ok-key.key c.in_ok-key.text
    _ _ _ _ c.loop-key.invariant c.in-Some.ensures.steps c.iter-key-items.ensures.ordered
    c.as_str.ensures.value c.in_ok-key.ensures.key c.in_ok-key.ensures.value
    c.in-Ok.ensures.entries c.in_ok-key.ensures.reads

pub loop-key-preserved-in-Ok-2 : goal.loop-key-preserved-in-Ok-2
loop-key-preserved-in-Ok-2 c =
    one_read _ _ (c.in-Some.key.now, c.in-Some.tree.now) _ _ _ c.in_ok-key.key c.in_ok-key.text
    _ _ _ _ c.loop-key.invariant c.in-Some.ensures.steps c.iter-key-items.ensures.ordered
    c.as_str.ensures.value c.in_ok-key.ensures.key c.in_ok-key.ensures.value
    c.in-Ok.ensures.entries c.in_ok-key.ensures.reads
