use Rattle.std.proofs.Common.{◌≡◌, [], length, ◌-◌}
use Rattle.race_record.specs.Noting.{Notes}
use Rattle.race_record.proofs.noting.run_noting.Given as goal

-- the hub has come so far, which is noted, and no job is out
abbrev pub invariant-events : goal.invariant-events
invariant-events g l = record {
  notes : Notes g.R.Routine.asks l.fn.picks l.fn.hub l.forks.items l.hub;
  back : l.hub.out ≡ [];
}

-- each event brings it nearer to its limit
abbrev pub decreases-events : goal.decreases-events
decreases-events g l = l.hub.limit - length l.hub.events

-- turns make no event
abbrev pub invariant-turns : goal.invariant-turns
invariant-turns g l = record {
  notes : Notes g.R.Routine.asks l.fn.picks l.fn.hub l.forks.items l.hub;
  back : l.hub.out ≡ [];
  events : l.hub.events ≡ l.initial.hub.events;
  limit : l.hub.limit ≡ l.initial.hub.limit;
}

-- each makes one goroutine fewer ready
abbrev pub decreases-turns : goal.decreases-turns
decreases-turns g l = length l.hub.ready
