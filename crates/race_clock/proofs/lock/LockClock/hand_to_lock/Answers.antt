use Rattle.std.proofs.{Common.{◌≡◌, length, max, ap, arith}, lemmas.Grind.common_steps}
use Rattle.race_clock.specs.{ClockState.{joined, padded}, ClocksState.LockState}
use Rattle.race_clock.proofs.JoinLemmas.{both_fit, joined_both}
use Rattle.race_clock.proofs.lock.LockClock.hand_to_lock.Goals as goal

pub raise-requires : goal.raise-requires
raise-requires g c =
    let most : c.max.result ≡ max (length c.all-all.result.now) (length c.self.inside.runlocks) = cc in
    let is : c.raise_to.new.self ≡ joined (padded c.args.clock.now c.max.result) c.all-all.result.now = cc (c.in_ok-grow-in-Some.ensures.ok) in
    let fit = both_fit c.args.clock.now c.all-all.result.now c.self.inside.runlocks c.max.result most in
    omega (arith, fit, ap length is)

pub returns-in_ok-grow-in-Some-clause-ok : goal.returns-in_ok-grow-in-Some-clause-ok
returns-in_ok-grow-in-Some-clause-ok g c =
    let most : c.max.result ≡ max (length c.all-all.result.now) (length c.self.inside.runlocks) = cc in
    let both = joined_both c.args.clock.now c.all-all.result.now c.self.inside.runlocks c.max.result most in
    let all : c.all-all.result.now ≡ c.args.self.now.unlocks = grind (arith, common_steps) steps 500000 in
    let runlocks : c.self.inside.runlocks ≡ c.args.self.now.runlocks = ap (λ (k : LockState). k.runlocks) c.self.view_is in
    cc (both, c.in_ok-grow-in-Some.ensures.ok, all, runlocks)
