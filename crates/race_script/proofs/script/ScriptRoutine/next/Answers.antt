-- The step that is asked, and the position behind it.
use Rattle.std.proofs.{Common.{◌≡◌, length, get_or, sym, ap, ◌∙◌, arith}, lemmas.Option.get_or_from_slice_get}
use Rattle.race_script.{specs.Run.ScriptState, proofs.BodyLemmas.script_goes_on}
use Rattle.race_script.proofs.ScriptLemmas.{step_asked, position_more, position_stays}
use Rattle.race_script.proofs.script.ScriptRoutine.next.Goals as goal

pub invariant_of-self : goal.invariant_of-self
invariant_of-self g c =
    let body = c.self.inside.whole.items in
    let same = ap (λ (s : ScriptState). length s.whole) c.self.view_is in
    let within = c.next_step-step.ensures.within in
    let read = sym (get_or_from_slice_get body c.next_step-step.result c.get-request.result c.get-request.result c.get-request.ensures) in (
      c.self.invariant.0,
      script_goes_on body c.next_step-step.result c.get-request.result c.self.invariant.0 read
          (omega (arith, same, within)) (sym c.is_exit.ensures ∙ c.if-not-is_exit.true),
    )

pub returns-then-not-is_exit : goal.returns-then-not-is_exit
returns-then-not-is_exit g c =
    let step = c.next_step-step.result in
    let asked = c.get-request.result in
    let read : asked ≡ get_or c.args.self.now.whole step asked =
    sym (get_or_from_slice_get c.self.inside.whole.items step asked asked c.get-request.ensures)
    ∙ ap (λ (s : ScriptState). get_or s.whole step asked) c.self.view_is in
    let e = c.next_step-step.ensures in
    record {
      whole = ap (λ (s : ScriptState). s.whole) c.self.view_is;
      step = step_asked c.args.self.now c.args.answer step asked e.step e.within read;
      position = position_more c.args.self.now c.args.answer step asked e.step e.within read (sym c.is_exit.ensures ∙ c.if-not-is_exit.true);
    }

pub returns-else-not-is_exit : goal.returns-else-not-is_exit
returns-else-not-is_exit g c =
    let step = c.next_step-step.result in
    let asked = c.get-request.result in
    let read : asked ≡ get_or c.args.self.now.whole step asked =
    sym (get_or_from_slice_get c.self.inside.whole.items step asked asked c.get-request.ensures)
    ∙ ap (λ (s : ScriptState). get_or s.whole step asked) c.self.view_is in
    let e = c.next_step-step.ensures in
    record {
      whole = ap (λ (s : ScriptState). s.whole) c.self.view_is;
      step = step_asked c.args.self.now c.args.answer step asked e.step e.within read;
      position = position_stays c.args.self.now c.args.answer step asked e.step e.within read (sym c.is_exit.ensures ∙ c.if-not-is_exit.false);
    }
