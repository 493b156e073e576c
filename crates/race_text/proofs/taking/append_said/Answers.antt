use Rattle.std.proofs.Common.{None, arith}
use Rattle.race_text.{specs.Common.{said_of, op_of}, proofs.TraceLemmas.draft_has_room}
use Rattle.race_text.proofs.taking.append_said.Goals as goal

pub append_deed-requires : goal.append_deed-requires
append_deed-requires g c =
    let said = c.args.said in
    record {
      allowed = draft_has_room c.args.trace.now c.add_met.new.trace (said_of said) _ c.requires.fits (omega arith)
          c.in_ok-place.ensures.decls c.in_ok-place.ensures.events
          (λ i. record { who = said.who; op = op_of said.deed; place = c.in_ok-place.ensures.number i; place2 = None });
    }
