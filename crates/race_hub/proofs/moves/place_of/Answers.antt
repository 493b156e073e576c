use Rattle.std.proofs.{lemmas.{Grind.common_steps, List.Sums.position_or_len_is}, Common.{◌<◌, ◌==◌, sym, get_or}}
use Rattle.std.proofs.Common.{length, arith, eq-eqb}
use Rattle.race_hub.proofs.AmongLemmas.{none_before, none_at_all}
use Rattle.race_hub.proofs.moves.place_of.Goals as goal

pub returns-then-numbers-at-clause-place : goal.returns-then-numbers-at-clause-place
returns-then-numbers-at-clause-place c =
    let xs = c.args.numbers.now in
    let test = c.loop-at-test.true in
    let within : c.loop-at.at < length xs = omega (arith, test) in
    sym (position_or_len_is (λ n. n == c.args.number) xs c.loop-at.at 0 (omega (arith, within))
    (λ k less. none_before (λ n. n == c.args.number) xs c.loop-at.at k 0 c.loop-at.invariant less (omega (arith, less, within)))
    (λ less. eq-eqb (get_or xs c.loop-at.at 0) c.args.number c.if-numbers-at.true))

pub unreachable-requires : goal.unreachable-requires
unreachable-requires c =
    let test = c.loop-at-test.false in
    none_at_all (λ n. n == c.args.number) c.args.numbers.now c.loop-at.at (omega (arith, test)) c.loop-at.invariant c.requires

pub loop-at-preserved : goal.loop-at-preserved
loop-at-preserved c = grind (arith, common_steps) steps 1000000
