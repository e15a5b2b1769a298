use Rattle.std.proofs.Common.{rules}
use Rattle.sweeping.specs.Sweep.{staying}
use Rattle.sweeping.proofs.Sweeping.{stopped, in_order_lem, left_within, swept}
use Rattle.sweeping.proofs.sweep.Goals as goal

pub returns-in_err-sweep_stop : goal.returns-in_err-sweep_stop
returns-in_err-sweep_stop c = search (rules, stopped)

pub remove_where-left-requires : goal.remove_where-left-requires
remove_where-left-requires c = in_order_lem _ _ c.in_ok-sweep_stop.ensures

pub overflow_sub-result : goal.overflow_sub-result
unfolding staying
overflow_sub-result c = left_within _ _ c.in_ok-sweep_stop.ensures _ _ _ c.used_slots-used.ensures c.remove_where-left.ensures

pub returns : goal.returns
unfolding staying
returns c = swept _ _ c.in_ok-sweep_stop.ensures _ _ _ c.used_slots-used.ensures c.remove_where-left.ensures
