use Rattle.std.proofs.Common.{◌≡◌, true, sym, ap, ◌∙◌, arith, length}
use Rattle.race_script.specs.{Bodies.is_behind_do, Program.asks_of, Run.{ScriptState, next_step}}
use Rattle.race_script.proofs.ScriptLemmas.{done_step, done_step_within}
use Rattle.race_script.proofs.script.Script.next_step.Goals as goal

module _ (g : _) (c : goal.After-behind_end g) where
  behind : is_behind_do (asks_of c.self.inside.whole.items) c.self.inside.position ≡ true
  behind = ap (λ (s : ScriptState). is_behind_do (asks_of s.whole) s.position) c.self.view_is ∙ sym c.is_behind_do.ensures ∙ c.if-is_behind_do.true

pub returns-then-is_done-clause-step : goal.returns-then-is_done-clause-step
returns-then-is_done-clause-step g c =
    done_step c.self.inside.whole.items c.self.inside.position c.behind_end.result c.args.answer
    (behind g c) c.behind_end.ensures.end (sym c.is_done.ensures ∙ c.if-is_done.true)
    ∙ ap (λ (s : ScriptState). next_step s c.args.answer) c.self.view_is

pub returns-then-is_done-clause-within : goal.returns-then-is_done-clause-within
returns-then-is_done-clause-within g c =
    let less = done_step_within c.self.inside.whole.items c.self.inside.position c.behind_end.result c.args.answer (behind g c)
    c.behind_end.ensures.end c.self.invariant.0 in
    let same = ap (λ (s : ScriptState). length s.whole) c.self.view_is in
    omega (arith, less, same)
