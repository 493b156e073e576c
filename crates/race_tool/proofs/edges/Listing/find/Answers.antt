use Rattle.std.proofs.{Common.{◌≡◌, ◌≤◌, ◌<◌, ℕ, Bool, true, false, nat_lt, length, refl, arith}, lemmas.Bool.Decides.nat_tests}
use Rattle.race_edges.specs.declared.fault.TheConstants.{MAX_PLAIN_EVENTS}
use Rattle.race_tool.proofs.edges.Listing.find.Goals as goal

not_over : (m n : ℕ) → (m < n → ⊥) → n ≤ m
not_over m n none = by (nat_lt m n) refl
  where
    by : (b : Bool) → nat_lt m n ≡ b → n ≤ m
    by true is = let over : m < n = grind (arith, nat_tests) in absurd (none over)
    by false is = grind (arith, nat_tests)

-- a trace that is too long is told so first
pub returns : goal.returns
returns g c =
    let short = not_over MAX_PLAIN_EVENTS (length c.args.trace.events) (λ over. let e = c.in-Err-Illegal.ensures.too_long.1 over in cc) in
    record {
      ok = λ bytes text. record { trace = c.args.trace; text = text; holds = (short, c.in_ok-find_illegal-in-Err-Illegal.ensures) };
      mismatch = λ is. cc;
    }
