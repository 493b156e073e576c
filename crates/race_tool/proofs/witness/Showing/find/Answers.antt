-- The verdict says which race is reported on a variable, and where none is.
use Rattle.std.proofs.Common.{List, Some, None, subst}
use Rattle.race_verdict.specs.{declared.{races.Race.Race, verdict.Verdict.Verdict}, Traces.HasVerdict, Verdicts.verdict_of}
use Rattle.race_tool.specs.Witness.{IsPickedOf}
use Rattle.race_tool.proofs.WitnessLemmas.{clean_right, races_right, none_clean, picked_races, picked_witness, none_picked}
use Rattle.race_tool.proofs.witness.Showing.find.Goals as goal

pub witness-requires : goal.witness-requires
witness-requires g c =
    let right = races_right c.args.trace c.in_ok-illegal.field-0 c.in-Races.races c.in-Races.is c.in_ok-illegal.ensures in
    picked_races c.args.trace c.args.self.now.name.now c.in-Races.races right c.in-Some.race
    (subst (λ (races : List Race). IsPickedOf c.args.trace races c.args.self.now.name.now (Some c.in-Some.race)) c.as_slice.ensures c.in-Some.ensures)

pub returns-in-Illegal : goal.returns-in-Illegal
returns-in-Illegal g c = record {
  ok = λ bytes text. record {
    trace = c.args.trace;
    text = text;
    holds = subst (λ (v : Verdict g.row.A.Denot). HasVerdict c.args.trace (verdict_of v)) c.in-Illegal.is c.in_ok-illegal.ensures;
  };
  mismatch = λ is. cc;
}

pub returns-in-Clean : goal.returns-in-Clean
returns-in-Clean g c = record {
  ok = λ bytes text. record {
    trace = c.args.trace;
    text = text;
    holds = none_clean c.args.trace c.args.self.now.name.now
        (clean_right c.args.trace c.in_ok-illegal.field-0 c.in-Clean.is c.in_ok-illegal.ensures);
  };
  mismatch = λ is. cc;
}

pub returns-in_ok-witness-in-Some : goal.returns-in_ok-witness-in-Some
returns-in_ok-witness-in-Some g c =
    let right = races_right c.args.trace c.in_ok-illegal.field-0 c.in-Races.races c.in-Races.is c.in_ok-illegal.ensures in
    let w = c.in_ok-witness-in-Some in
    let is = picked_witness c.args.trace c.args.self.now.name.now c.in-Races.races right c.in-Some.race w.field-0.order.items
    (subst (λ (races : List Race). IsPickedOf c.args.trace races c.args.self.now.name.now (Some c.in-Some.race)) c.as_slice.ensures c.in-Some.ensures)
    w.ensures.order in
    record {
      ok = λ bytes text. rw w.ensures.trace (text, is);
      mismatch = λ e. cc;
    }

pub returns-in-None : goal.returns-in-None
returns-in-None g c =
    let right = races_right c.args.trace c.in_ok-illegal.field-0 c.in-Races.races c.in-Races.is c.in_ok-illegal.ensures in
    record {
      ok = λ bytes text. record {
        trace = c.args.trace;
        text = text;
        holds = none_picked c.args.trace c.args.self.now.name.now c.in-Races.races right
            (subst (λ (races : List Race). IsPickedOf c.args.trace races c.args.self.now.name.now None) c.as_slice.ensures c.in-None.ensures);
      };
      mismatch = λ is. cc;
    }
