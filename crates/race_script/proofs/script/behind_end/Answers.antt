-- One more step is passed, at the depth before it.
use Rattle.std.proofs.Common.{◌≡◌, ◌+◌, ◌-◌, ◌==◌, true, false, drop, sym, ap, ◌∙◌, arith, if◌then◌else◌}
use Rattle.std.proofs.lemmas.Bool.Decides.{nat_tests}
use Rattle.race_script.{specs.{Bodies.steps_to_end, Program.asks_of}, proofs.BodyLemmas.{asks_at, steps_do, steps_end}}
use Rattle.race_script.proofs.{BodyLemmas.{steps_other, none_behind}, script.behind_end.Goals.then-is_do}
use Rattle.race_script.proofs.script.behind_end.Goals.{else-is_do+then-is_end+else-depth-eq0, else-is_do+else-is_end}
use Rattle.race_script.proofs.script.behind_end.Goals as goal

pub returns-then-depth-eq0-clause-end : goal.returns-then-depth-eq0-clause-end
returns-then-depth-eq0-clause-end g c =
    let steps = c.args.steps.now.items in
    let i = c.loop-at.at in let depth = c.loop-at.depth in
    let rest = drop (i + 1) (asks_of steps) in
    let zero : (depth == 0) ≡ true = let none = c.if-depth-eq0.true in grind (arith, nat_tests, none) in
    let one : steps_to_end depth (drop i (asks_of steps)) ≡ 1 =
    ap (steps_to_end depth) (asks_at steps i c.get-ask.result c.get-ask.ensures) ∙ steps_end depth _ rest (sym c.is_end.ensures ∙ c.if-is_end.true)
    ∙ ap (λ b. if b then 1 else 1 + steps_to_end (depth - 1) rest) zero in
    let all = c.loop-at.invariant.all in
    omega (arith, all, one)

pub loop-at-preserved : goal.loop-at-preserved
loop-at-preserved g c =
    let steps = c.args.steps.now.items in
    let i = c.loop-at.at in let depth = c.loop-at.depth in
    let rest = drop (i + 1) (asks_of steps) in
    let from = asks_at steps i c.get-ask.result c.get-ask.ensures in
    let deep = c.loop-at.invariant.deep in
    let all = c.loop-at.invariant.all in
    elim c.if-is_do.branch [
      | then-is_do w ↦
          let one = ap (steps_to_end depth) from ∙ steps_do depth _ rest (sym c.is_do.ensures ∙ w.if-is_do.true) in
          let is = w.depth-is in
          let same = ap (λ d. steps_to_end d rest) is in
          record { deep = omega (arith, deep, is); all = omega (arith, all, one, same) }
      | else-is_do+then-is_end+else-depth-eq0 w ↦
          let other = w.if-depth-eq0.false in
          let more : (depth == 0) ≡ false = grind (arith, nat_tests, other) in
          let one = ap (steps_to_end depth) from ∙ steps_end depth _ rest (sym w.is_end.ensures ∙ w.if-is_end.true)
          ∙ ap (λ b. if b then 1 else 1 + steps_to_end (depth - 1) rest) more in
          let is = w.depth-is in
          let same = ap (λ d. steps_to_end d rest) is in
          record { deep = omega (arith, deep, is); all = omega (arith, all, one, same) }
      | else-is_do+else-is_end w ↦
          let one = ap (steps_to_end depth) from
          ∙ steps_other depth _ rest (sym c.is_do.ensures ∙ w.if-is_do.false) (sym w.is_end.ensures ∙ w.if-is_end.false) in
          let is = w.depth-is in
          let same = ap (λ d. steps_to_end d rest) is in
          record { deep = omega (arith, deep, is); all = omega (arith, all, one, same) }
    ]

pub returns-clause-end : goal.returns-clause-end
returns-clause-end g c =
    let past = c.loop-at-test.false in
    let count = c.len-at-end.ensures in
    let most = c.loop-at.auto.at-end in
    let none = none_behind c.args.steps.now.items c.loop-at.at c.loop-at.depth (omega (arith, past, count)) in
    let all = c.loop-at.invariant.all in
    let len = c.len.ensures in
    omega (arith, all, none, past, count, most, len)
