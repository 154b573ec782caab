use Rattle.nextest_tree.proofs.Reading.{can_go_back, read_entry_whole}
use Rattle.nextest_scripts.proofs.env_map.read_variable.Goals as goal

pub leave-requires : goal.leave-requires
leave-requires c =
    can_go_back _ _ _ _ _ _ _ c.in_ok-outer.ensures.outer c.in_ok-outer.ensures.ok
    c.in_ok-text.ensures.reads

pub returns-in-Ok-clause-reads : goal.returns-in-Ok-clause-reads
returns-in-Ok-clause-reads c =
    read_entry_whole _ _ _ _ _ _ _ _ _ c.in_ok-check_key.ensures.ok
    c.in_ok-outer.ensures.outer c.in_ok-outer.ensures.ok c.in_ok-text.ensures.reads
    c.leave.ensures
