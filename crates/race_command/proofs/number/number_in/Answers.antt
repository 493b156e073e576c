use Rattle.std.proofs.Common.{ℕ, ◌≤◌, Option, IfSome, sym, subst, ◌∙◌, arith, rules}
use Rattle.race_command.proofs.NumberLemmas.{number_most}
use Rattle.race_command.proofs.number.number_in.Goals as goal

pub returns-else-number-least-clause-in_limits : goal.returns-else-number-least-clause-in_limits
returns-else-number-least-clause-in_limits c =
    let above = c.if-number-least.false in (
      omega (arith, above),
      subst (λ (o : Option ℕ). IfSome o (λ n. n ≤ c.args.most))
          (sym c.read_number.ensures ∙ c.in_ok-number.was) (number_most c.args.most c.as_bytes.result.now),
    )

pub returns-then-number-least-clause-value : goal.returns-then-number-least-clause-value
returns-then-number-least-clause-value c = search rules steps 100000

pub returns-then-number-least-clause-in_limits : goal.returns-then-number-least-clause-in_limits
returns-then-number-least-clause-in_limits c = cc
