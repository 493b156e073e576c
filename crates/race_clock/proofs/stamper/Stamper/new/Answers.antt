use Rattle.race_clock.proofs.Opening.{opening_stands}
use Rattle.race_clock.proofs.stamper.Stamper.new.Goals as goal

pub returns : goal.returns
returns g c = record { stands = opening_stands c.args.decls.now.declarations c.in_ok-new.field-0 c.in_ok-new.ensures }
