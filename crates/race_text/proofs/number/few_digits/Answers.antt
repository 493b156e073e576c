use Rattle.std.proofs.Common.{◌≡◌, ◌+◌, ◌*◌, ◌<◌, ◌^◌, length, take, subst, arith}
use Rattle.std.{proofs.lemmas.List.take_all, specs.Str.Parse.{AllDigits, digits_value}}
use Rattle.race_text.proofs.NumberLemmas.{number-stops, digits_fit, digits_go_on}
use Rattle.race_text.proofs.number.few_digits.Goals as goal

pub returns-in_err-first-clause-other : goal.returns-in_err-first-clause-other
returns-in_err-first-clause-other c =
    rw c.from_residual.ensures
    (λ max small. number-stops max c.args.word.now small c.loop-at.at c.loop-at.value (omega arith) c.loop-at.invariant.value
    (λ digit. c.in_err-first.ensures digit.0))

pub returns-in_err-second-clause-other : goal.returns-in_err-second-clause-other
returns-in_err-second-clause-other c =
    let is = c.in_ok-first.ensures in
    let one = digits_go_on c.args.word.now c.loop-at.at c.loop-at.value _ (omega arith) c.loop-at.invariant.digits c.loop-at.invariant.value is.0
    (λ j. c.loop-at.value * 10 + is.1 j) in
    rw c.from_residual-in_err-second.ensures
    (λ max small. number-stops max c.args.word.now small (c.loop-at.at + 1) _ (omega arith) one.1 (λ digit. c.in_err-second.ensures digit.0))

pub returns-in_err-last-clause-other : goal.returns-in_err-last-clause-other
returns-in_err-last-clause-other c =
    rw c.from_residual-in_err-last.ensures
    (λ max small. number-stops max c.args.word.now small c.loop-at.at c.loop-at.value (omega arith) c.loop-at.invariant.value
    (λ digit. c.in_err-last.ensures digit.0))

module _ (c : goal.In_ok-second) where
  one : AllDigits 10 (take (c.loop-at.at + 1) c.args.word.now) × (c.loop-at.value * 10 + c.in_ok-first.first ≡ digits_value 10 (take (c.loop-at.at + 1) c.args.word.now))
  one =
      let is = c.in_ok-first.ensures in
      digits_go_on c.args.word.now c.loop-at.at c.loop-at.value _ (omega arith) c.loop-at.invariant.digits c.loop-at.invariant.value is.0
      (λ j. c.loop-at.value * 10 + is.1 j)

  fit : (c.loop-at.value * 10 + c.in_ok-first.first) * 10 + 9 < 2 ^ 64
  fit = digits_fit c.args.word.now (c.loop-at.at + 1) (c.loop-at.value * 10 + c.in_ok-first.first) (omega arith) (omega arith) one.0 one.1

  two : AllDigits 10 (take (c.loop-at.at + 2) c.args.word.now)
      × (c.loop-at.value * 100 + (c.in_ok-first.first * 10 + c.in_ok-second.second) ≡ digits_value 10 (take (c.loop-at.at + 2) c.args.word.now))
  two =
      let is = c.in_ok-second.ensures in
      let more = is.1 in
      let at : c.loop-at.at + 1 + 1 ≡ c.loop-at.at + 2 = omega arith in
      subst (λ n. AllDigits 10 (take n c.args.word.now)
      × (c.loop-at.value * 100 + (c.in_ok-first.first * 10 + c.in_ok-second.second) ≡ digits_value 10 (take n c.args.word.now))) at
      (digits_go_on c.args.word.now (c.loop-at.at + 1) (c.loop-at.value * 10 + c.in_ok-first.first) _ (omega arith) one.0 one.1 is.0
      (omega (arith, more)))

pub loop-at-preserved : goal.loop-at-preserved
loop-at-preserved c = record { within = omega arith; digits = (two c).0; value = (two c).1 }

pub overflow_mul-value : goal.overflow_mul-value
overflow_mul-value c = let fits = fit c in omega (arith, fits)

pub overflow_add-value-in-loop-at : goal.overflow_add-value-in-loop-at
overflow_add-value-in-loop-at c =
    let fits = fit c in
    let digit = c.in_ok-second.ensures.0.1 in
    let is = c.in_ok-second.ensures.1 in
    omega (arith, fits, digit, is)

pub overflow_mul-result : goal.overflow_mul-result
overflow_mul-result c =
    let fits = digits_fit c.args.word.now c.loop-at.at c.loop-at.value (omega arith) (omega arith) c.loop-at.invariant.digits c.loop-at.invariant.value in
    omega (arith, fits)

pub overflow_add-result : goal.overflow_add-result
overflow_add-result c =
    let fits = digits_fit c.args.word.now c.loop-at.at c.loop-at.value (omega arith) (omega arith) c.loop-at.invariant.digits c.loop-at.invariant.value in
    let digit = c.in_ok-last.ensures.0.1 in
    let is = c.in_ok-last.ensures.1 in
    omega (arith, fits, digit, is)

pub returns-clause-digits : goal.returns-clause-digits
returns-clause-digits c =
    let is = c.in_ok-last.ensures in
    subst (λ w. AllDigits 10 w × (c.loop-at.value * 10 + c.in_ok-last.last ≡ digits_value 10 w))
    (take_all (c.loop-at.at + 1) c.args.word.now (omega arith))
    (digits_go_on c.args.word.now c.loop-at.at c.loop-at.value _ (omega arith) c.loop-at.invariant.digits c.loop-at.invariant.value is.0
    (λ j. c.loop-at.value * 10 + is.1 j))
