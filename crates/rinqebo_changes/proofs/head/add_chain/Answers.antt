use Rattle.std.proofs.Common.{codes, string_bytes}
use Rattle.rinqebo_report.proofs.Joined.{joined_more}
use Rattle.rinqebo_changes.proofs.head.add_chain.Goals as goal

pub loop-profile-preserved : goal.loop-profile-preserved
loop-profile-preserved c =
    joined_more (codes " < ") string_bytes c.args.chain.now c.loop-profile.profile-index c.profile-item.result
    c.loop-profile-test.true c.profile-item.is _ _ _ _ c.loop-profile.separator.now
    c.loop-profile.invariant c.in_ok-push_str.ensures.bytes
    (rw c.as_str.ensures.value at c.in_ok-push_str-2.ensures.bytes)
