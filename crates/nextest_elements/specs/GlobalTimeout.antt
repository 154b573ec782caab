-- How long a whole run may take.
use Rattle.std.specs.Prelude.{◌≡◌, Ok}
use Rattle.nextest_elements.specs.declared.global_timeout.GlobalTimeout.{GlobalTimeout}
use Rattle.nextest_tree.specs.Node.{Node}
use Rattle.nextest_elements.specs.Nanoseconds.{duration_at}

-- the node spells the period
abbrev pub IsGlobalTimeout : Node → GlobalTimeout → Type 0
IsGlobalTimeout n global = duration_at n ≡ Ok global.period
