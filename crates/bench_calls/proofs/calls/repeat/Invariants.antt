-- No more calls are counted than were made.
use Rattle.std.proofs.Common.{◌≤◌}
use Rattle.bench_calls.proofs.calls.repeat.Given as goal

abbrev pub invariant-loop-made : goal.invariant-loop-made
invariant-loop-made g l = goal.F-IsAlwaysCallable g l.call × (l.count ≤ l.made)
