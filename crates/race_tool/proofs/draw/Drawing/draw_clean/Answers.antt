use Rattle.std.{proofs.Common.{ℕ, List, Option, sym, subst}, specs.Borrow.Bor}
use Rattle.race_tool.{specs.Draw.{HasNoRaceOn, name_in}, proofs.WitnessLemmas.none_clean}
use Rattle.race_tool.proofs.draw.Drawing.draw_clean.Goals as goal

pub returns-in-Some : goal.returns-in-Some
returns-in-Some g c = λ bytes text. record {
  trace = c.args.trace;
  text = text;
  holds = subst (λ (n : Option (Bor (List ℕ))). HasNoRaceOn (name_in n) c.args.trace) (sym c.in-Some.is)
      (none_clean c.args.trace c.in-Some.field-0.now c.requires);
}
