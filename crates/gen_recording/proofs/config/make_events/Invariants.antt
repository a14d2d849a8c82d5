use Rattle.gen_recording.proofs.Names.{◌≡◌, map, range_with_len, sensor_event}
use Rattle.gen_recording.proofs.config.make_events.Given as goal

-- the events so far
abbrev pub invariant-loop-e : goal.invariant-loop-e
invariant-loop-e l = l.all.items ≡ map sensor_event (range_with_len 0 l.e)
