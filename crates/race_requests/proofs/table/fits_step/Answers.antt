use Rattle.std.proofs.Common.{◌≡◌, Some, rules}
use Rattle.race_requests.specs.Table.{place_of}
use Rattle.race_requests.proofs.table.fits_step.Goals as goal

pub returns : goal.returns
returns c = (
  λ yes.
      let same : place_of c.args.who c.args.event.now ≡ Some c.args.step.now.asked.place = search rules in
      (same, c.is_told_by_some_branch.ensures.0 yes),
  λ fits. c.is_told_by_some_branch.ensures.1 fits.1,
)
