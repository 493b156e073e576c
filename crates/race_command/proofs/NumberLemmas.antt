-- A number that is read is at most its limit.
use Rattle.std.proofs.Common.{◌≡◌, ℕ, ◌≤◌, ◌&&◌, Bool, true, false, nat_le, if◌then◌else◌, List, Some, None, IfSome}
use Rattle.std.{proofs.{Common.{refl, arith}, lemmas.Bool.Decides.nat_tests}, specs.Str.{bytes_eq, Parse.digits_value}}
use Rattle.std.specs.Fmt.{decimal}
use Rattle.race_text.specs.Words.{number}

pub number_most : (most : ℕ) (word : List ℕ) → IfSome (number most word) (λ n. n ≤ most)
unfolding number
number_most most word = go (bytes_eq word (decimal (digits_value 10 word))) (nat_le (digits_value 10 word) most) refl
  where
    go : (same low : Bool) → nat_le (digits_value 10 word) most ≡ low → IfSome (if same && low then Some (digits_value 10 word) else None) (λ n. n ≤ most)
    go true true is = grind (arith, nat_tests)
    go true false is = tt
    go false low is = tt
