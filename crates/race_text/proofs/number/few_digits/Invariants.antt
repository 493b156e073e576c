use Rattle.std.{proofs.Common.{◌≡◌, ◌≤◌, ◌-◌, length, take}, specs.Str.Parse.{AllDigits, digits_value}}
use Rattle.race_text.proofs.number.few_digits.Given as goal

abbrev pub invariant-loop-at : goal.invariant-loop-at
invariant-loop-at l = record {
  within : l.at ≤ length l.word;
  digits : AllDigits 10 (take l.at l.word);
  value : l.value ≡ digits_value 10 (take l.at l.word);
}

abbrev pub decreases-loop-at : goal.decreases-loop-at
decreases-loop-at l = length l.word - l.at
